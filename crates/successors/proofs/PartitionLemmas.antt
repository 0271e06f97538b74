-- The commands by what they may be part of, and the choices of a state by them.
use Rattle.std.proofs.Common.{◌≡◌, ℕ, suc, ◌+◌, ◌<◌, ◌≤◌, List, [], ◌∷◌, ◌++◌, length, get_or, take, map, max, Bool, cond, All, refl, sym, ap, ◌∙◌, subst, arith, add-one}
use Rattle.std.specs.Prelude.{filter, flat_map}
use Rattle.std.specs.List.{enumerate_from, range_with_len}
use Rattle.std.proofs.lemmas.List.{map-append, map-id}
use Rattle.std.proofs.lemmas.List.Elements.{All-more, All-weaker}
use Rattle.std.proofs.lemmas.List.FromFn.{map-range_with_len_more}
use Rattle.chain_model.specs.declared.chain.Act.{Act}
use Rattle.chain_model.specs.declared.chain.Action.{Action}
use Rattle.chain_model.specs.declared.chain.Chain.{Chain}
use Rattle.chain_model.specs.declared.steps.Choice.{Choice}
use Rattle.chain_model.specs.Chain.{is_part, is_unlabelled}
use Rattle.chain_model.specs.Choices.{combinations, command_is, parts_of, single_choice, action_choice, action_choices, choices_among}
use Rattle.successors.specs.Enabled.{is_set, is_enabled, numbers_with}
use Rattle.successors.specs.Partition.{numbers_of, IsPartition, joint_lists, choice_lists}
use Rattle.successors.proofs.FilterLemmas.{filter_swap}

-- one number more
pub range_more : (n : ℕ) → range_with_len 0 (n + 1) ≡ range_with_len 0 n ++ (n ∷ [])
range_more n = sym (map-id (range_with_len 0 (n + 1))) ∙ map-range_with_len_more (λ k. k) 0 n n (omega arith) ∙ ap (λ ls. ls ++ (n ∷ [])) (map-id (range_with_len 0 n))

-- one action more is at most as wide
pub wider : (actions : List (List (List ℕ))) (i width next : ℕ) (lists : List (List ℕ)) → i < length actions → lists ≡ get_or actions i lists
    → next ≡ max (length lists) width → All (λ (ls : List (List ℕ)). length ls ≤ width) (take i actions) → All (λ (ls : List (List ℕ)). length ls ≤ next) (take (i + 1) actions)
wider actions i width next lists lt is wide so =
    All-more (λ (ls : List (List ℕ)). length ls ≤ next) actions i lists lt
    (All-weaker (λ (ls : List (List ℕ)). length ls ≤ width) (λ (ls : List (List ℕ)). length ls ≤ next) (λ ls few. omega (arith, few, wide)) (take i actions) so)
    (subst (λ (ls : List (List ℕ)). length ls ≤ next) is (omega (arith, wide)))

-- the numbers with the bit of a lane are those that pass its test
with_bit : (lane n : ℕ) (bytes : List ℕ) (p : ℕ → Bool) → ((i : ℕ) → i < length bytes → p (n + i) ≡ is_set lane (get_or bytes i 0))
    → numbers_with lane n bytes ≡ filter p (range_with_len n (length bytes))
with_bit lane n [] p test = refl
with_bit lane n (byte ∷ bytes) p test =
    let first : p n ≡ is_set lane byte = ap p (omega arith) ∙ test 0 (omega arith) in
    let others : numbers_with lane (suc n) bytes ≡ filter p (range_with_len (n + 1) (length bytes)) =
    with_bit lane (suc n) bytes p (λ i lt. ap p (omega arith) ∙ test (suc i) (omega (arith, lt)))
    ∙ ap (λ k. filter p (range_with_len k (length bytes))) (sym (add-one n)) in
    ap (λ ls. cond (is_set lane byte) (n ∷ ls) ls) others
    ∙ ap (λ b. cond b (n ∷ filter p (range_with_len (n + 1) (length bytes))) (filter p (range_with_len (n + 1) (length bytes)))) (sym first)

pub enabled_numbers : (lane : ℕ) (bytes : List ℕ) → numbers_with lane 0 bytes ≡ filter (is_enabled lane bytes) (range_with_len 0 (length bytes))
enabled_numbers lane bytes = with_bit lane 0 bytes (is_enabled lane bytes) (λ i lt. ap (is_enabled lane bytes) (omega arith))

-- the commands of choices
single_commands : (numbers : List ℕ) → map (λ (choice : Choice). choice.commands) (map single_choice numbers) ≡ map (λ number. number ∷ []) numbers
single_commands [] = refl
single_commands (n ∷ ns) = ap (λ ls. (n ∷ []) ∷ ls) (single_commands ns)

joint_commands : (action : ℕ) (lists : List (List ℕ)) → map (λ (choice : Choice). choice.commands) (map (action_choice action) lists) ≡ lists
joint_commands action [] = refl
joint_commands action (commands ∷ lists) = ap (λ ls. commands ∷ ls) (joint_commands action lists)

-- those of a module that are enabled
parts_enabled : (p : ℕ → Bool) (acts : List Act) (numbers : List ℕ) (action : ℕ) (modules : List ℕ)
    → parts_of acts (filter p numbers) action modules ≡ map (filter p) (parts_of acts numbers action modules)
parts_enabled p acts numbers action [] = refl
parts_enabled p acts numbers action (owner ∷ owners) = λ i.
    filter_swap (command_is (is_part action owner) acts) p numbers i ∷ parts_enabled p acts numbers action owners i

-- the commands of the choices of actions
actions_commands : (p : ℕ → Bool) (acts : List Act) (numbers : List ℕ) (actions : List (ℕ × Action))
    → map (λ (choice : Choice). choice.commands) (flat_map (λ action. action_choices acts (filter p numbers) action.0 action.1.takes) actions)
    ≡ flat_map (joint_lists p) (map (λ action. parts_of acts numbers action.0 action.1.takes) actions)
actions_commands p acts numbers [] = refl
actions_commands p acts numbers (action ∷ actions) =
    map-append (λ (choice : Choice). choice.commands) (action_choices acts (filter p numbers) action.0 action.1.takes)
    (flat_map (λ action. action_choices acts (filter p numbers) action.0 action.1.takes) actions)
    ∙ ap (λ ls. ls ++ map (λ (choice : Choice). choice.commands) (flat_map (λ action. action_choices acts (filter p numbers) action.0 action.1.takes) actions))
    (joint_commands action.0 (combinations (parts_of acts (filter p numbers) action.0 action.1.takes)) ∙ ap combinations (parts_enabled p acts numbers action.0 action.1.takes))
    ∙ ap (λ ls. joint_lists p (parts_of acts numbers action.0 action.1.takes) ++ ls) (actions_commands p acts numbers actions)

-- the choices among some commands, by their commands
pub choices_commands : (chain : Chain) (alone : List ℕ) (joint : List (List (List ℕ))) (p : ℕ → Bool) → IsPartition chain alone joint
    → map (λ (choice : Choice). choice.commands) (choices_among chain (filter p (numbers_of chain))) ≡ choice_lists p alone joint
choices_commands chain alone joint p is =
    let numbers : List ℕ = numbers_of chain in
    let actions : List (ℕ × Action) = enumerate_from 0 chain.actions in
    map-append (λ (choice : Choice). choice.commands) (map single_choice (filter (command_is is_unlabelled chain.commands) (filter p numbers)))
    (flat_map (λ action. action_choices chain.commands (filter p numbers) action.0 action.1.takes) actions)
    ∙ (λ i. (single_commands (filter (command_is is_unlabelled chain.commands) (filter p numbers))
    ∙ ap (map (λ number. number ∷ [])) (filter_swap (command_is is_unlabelled chain.commands) p numbers ∙ ap (filter p) (sym is.singles))) i
    ++ (actions_commands p chain.commands numbers actions ∙ ap (flat_map (joint_lists p)) (sym is.actions)) i)
