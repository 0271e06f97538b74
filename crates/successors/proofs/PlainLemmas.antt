-- The choices that are read off guards that have a truth value in every state.
use Rattle.std.proofs.Common.{◌≡◌, ℕ, zero, suc, ◌+◌, ◌-◌, ◌<◌, ◌≤◌, List, [], ◌∷◌, ◌++◌, length, get_or, set, take, drop, map, Bool, true, false, cond, All, Some, Result, Ok, Err, refl, sym, ap, ◌∙◌, subst, arith, append-nil, length-drop}
use Rattle.std.specs.Prelude.{◌&&◌, ◌||◌, IsOk, filter, flat_map, slice_get, if◌then◌else◌}
use Rattle.std.specs.List.{list_any}
use Rattle.std.proofs.lemmas.List.{length-map, length-set, length-take, take_all}
use Rattle.std.proofs.lemmas.List.Elements.{All-head, All-tail}
use Rattle.chain_model.specs.declared.outcome.TraceFault.{TraceFault}
use Rattle.chain_model.specs.declared.chain.Chain.{Chain}
use Rattle.chain_model.specs.declared.steps.Choice.{Choice}
use Rattle.chain_model.specs.Results.{◌>>=◌}
use Rattle.chain_model.specs.States.{State}
use Rattle.chain_model.specs.Choices.{combinations, choices_of}
use Rattle.guard_code.specs.declared.nodes.Node.{Node}
use Rattle.guard_code.specs.Tests.{IsSmall}
use Rattle.guard_code.specs.Wholes.{TruthResult}
use Rattle.successors.specs.declared.choosing.Choices.{Choices}
use Rattle.successors.specs.declared.choosing.Choices.TheVariants as c
use Rattle.successors.specs.declared.plan.Plan.{Plan}
use Rattle.successors.specs.Enabled.{is_set, is_enabled, numbers_with, AreGuards}
use Rattle.successors.specs.Partition.{joint_lists, choice_lists}
use Rattle.successors.specs.Commands.{enabled_by}
use Rattle.successors.specs.Steppers.{IsPlan}
use Rattle.successors.specs.Choosing.{AreChoices, IsWithin}
use Rattle.successors.specs.Plain.{told_by, HaveTruth, is_true, holds_at, is_possible, AreTold, HasChoice}
use Rattle.successors.proofs.DecodeLemmas.{cut_at, written}
use Rattle.successors.proofs.CountLemmas.{enabled_at}
use Rattle.successors.proofs.PlaceLemmas.{first_further, written_first}
use Rattle.successors.proofs.GuardLemmas.{enabled_same}
use Rattle.successors.proofs.ChoiceLemmas.{one_known}
use Rattle.successors.proofs.MoveLemmas.{known, none_made, some_made, chosen_few}

-- the byte of a guard, and those of guards
byte_of : Bool → ℕ
byte_of holds = cond holds 1 0

bytes_of : State → List Node → List ℕ
bytes_of state nodes = map (λ (node : Node). byte_of (is_true (told_by state node))) nodes

-- one guard more
one_more : (n : ℕ) (told : TruthResult) (bytes : List ℕ) (others : Result (List ℕ) TraceFault) → IsOk told → others ≡ Ok (numbers_with 0 (suc n) bytes)
    → (told >>= λ holds. others >>= λ numbers. Ok (if holds then n ∷ numbers else numbers)) ≡ Ok (numbers_with 0 n (byte_of (is_true told) ∷ bytes))
unfolding byte_of
one_more n (Ok true) bytes others ok is = ap (λ (r : Result (List ℕ) TraceFault). r >>= λ numbers. Ok (n ∷ numbers)) is
one_more n (Ok false) bytes others ok is = ap (λ (r : Result (List ℕ) TraceFault). r >>= λ numbers. Ok numbers) is
one_more n (Err fault) bytes others ok is = absurd (cc)

-- the bytes say which guards hold
bytes_tell : (n : ℕ) (state : State) (nodes : List Node) → All (λ (node : Node). IsOk (told_by state node)) nodes
    → enabled_by n state nodes ≡ Ok (numbers_with 0 n (bytes_of state nodes))
unfolding bytes_of
bytes_tell n state [] all = refl
bytes_tell n state (node ∷ nodes) all = one_more n (told_by state node) (bytes_of state nodes) (enabled_by (suc n) state nodes)
    (All-head (λ (it : Node). IsOk (told_by state it)) node nodes all) (bytes_tell (suc n) state nodes (All-tail (λ (it : Node). IsOk (told_by state it)) node nodes all))

byte_set : (holds : Bool) → is_set 0 (byte_of holds) ≡ holds
unfolding byte_of
byte_set true = refl
byte_set false = refl

byte_at : (state : State) (nodes : List Node) (n : ℕ) → is_enabled 0 (bytes_of state nodes) n ≡ holds_at nodes state n
unfolding bytes_of
byte_at state [] n = refl
byte_at state (node ∷ nodes) zero = byte_set (is_true (told_by state node))
byte_at state (node ∷ nodes) (suc n) = byte_at state nodes n

same_test : (state : State) (nodes : List Node) → is_enabled 0 (bytes_of state nodes) ≡ holds_at nodes state
same_test state nodes = λ i n. byte_at state nodes n i

-- the choices of a state by a test of commands
pub record KnownBy (chain : Chain) (state : State) (plan : Plan) (p : ℕ → Bool) : Type 0 where
  pub choices : List Choice
  pub made : choices_of chain state ≡ Ok choices
  pub commands : map (λ (choice : Choice). choice.commands) choices ≡ choice_lists p plan.partition.singles plan.partition.actions
  pub size : length choices ≡ length (choice_lists p plan.partition.singles plan.partition.actions)

pub known_by : (chain : Chain) (state : State) (plan : Plan) → IsPlan chain plan → HaveTruth plan.guards → IsSmall state → KnownBy chain state plan (holds_at plan.guards state)
unfolding bytes_of
known_by chain state plan is truths small =
    let bytes : List ℕ = bytes_of state plan.guards in
    let guards : AreGuards chain state 0 bytes = record {
      long = length-map plan.guards (λ (node : Node). byte_of (is_true (told_by state node))) ∙ is.guards.long;
      enabled = enabled_same state chain.commands plan.guards is.guards small ∙ bytes_tell 0 state plan.guards (truths.told state);
    } in
    let k = known chain state plan 0 bytes is guards in
    subst (KnownBy chain state plan) (same_test state plan.guards) (record { choices = k.choices; made = k.made; commands = k.commands; size = k.size })

-- from a place on each list has one enabled command alone, and these stand there
pub record Sole (p : ℕ → Bool) (lists : List (List ℕ)) (place : ℕ) (chosen : List ℕ) : Type 0 where
  pub within : place ≤ length lists
  pub long : length lists ≤ length chosen
  pub is : joint_lists p (drop place lists) ≡ drop place (take (length lists) chosen) ∷ []

-- one list further, from the last
pub sole_next : (p : ℕ → Bool) (lists : List (List ℕ)) (place command : ℕ) (chosen list : List ℕ) → place < length lists → list ≡ get_or lists place list
    → Sole p lists (place + 1) chosen → filter p list ≡ command ∷ [] → Sole p lists place (set chosen place command)
sole_next p lists place command chosen list lt at so one =
    record {
      within = omega (arith, lt);
      long = omega (arith, so.long, length-set chosen place command);
      is =
          (cut_at p lists place list lt at).is
          ∙ ap (λ (items : List ℕ). combinations (items ∷ map (filter p) (drop (place + 1) lists))) one
          ∙ ap (λ (others : List (List ℕ)). map (λ ls. command ∷ ls) others ++ []) so.is
          ∙ ap (λ (ls : List ℕ). ls ∷ []) (sym (written chosen place (length lists) command lt so.long));
    }

-- without items on the one side or the other there are no combinations
no_items : (xs : List ℕ) → flat_map (λ item. map (λ (others : List ℕ). item ∷ others) []) xs ≡ []
no_items [] = refl
no_items (x ∷ xs) = no_items xs

no_first : (items : List ℕ) (lists : List (List ℕ)) → items ≡ [] → flat_map (λ item. map (λ others. item ∷ others) lists) items ≡ []
no_first items lists none = ap (flat_map (λ item. map (λ others. item ∷ others) lists)) none

no_others : (items : List ℕ) (lists : List (List ℕ)) → lists ≡ [] → flat_map (λ item. map (λ others. item ∷ others) lists) items ≡ []
no_others items lists none = ap (λ (ls : List (List ℕ)). flat_map (λ item. map (λ others. item ∷ others) ls) items) none ∙ no_items items

-- where a list has no enabled command there is no choice
none_product : (lists : List (List ℕ)) (i : ℕ) (d : List ℕ) → i < length lists → get_or lists i d ≡ [] → combinations lists ≡ []
none_product [] i d lt none = absurd (omega (arith, lt))
none_product (list ∷ lists) zero d lt none = no_first list (combinations lists) none
none_product (list ∷ lists) (suc i) d lt none = no_others list (combinations lists) (none_product lists i d (omega (arith, lt)) none)

pub none_at : (p : ℕ → Bool) (lists : List (List ℕ)) (i : ℕ) (list : List ℕ) → i < length lists → list ≡ get_or lists i list → filter p list ≡ [] → joint_lists p lists ≡ []
none_at p lists i list lt is none =
    none_product (map (filter p) lists) i (filter p list) (omega (arith, lt, length-map lists (filter p))) (sym (enabled_at p lists i list lt is) ∙ none)

-- no item passes
skips : (passes some : Bool) (x : ℕ) (xs : List ℕ) → (some ≡ false → xs ≡ []) → (passes || some) ≡ false → cond passes (x ∷ xs) xs ≡ []
skips true some x xs others none = absurd (cc)
skips false some x xs others none = others none

none_passes : (p : ℕ → Bool) (xs : List ℕ) → list_any p xs ≡ false → filter p xs ≡ []
none_passes p [] none = refl
none_passes p (x ∷ xs) none = skips (p x) (list_any p xs) x (filter p xs) (none_passes p xs) none

-- what is not possible has no choice
neither : (first others : Bool) (items : List ℕ) (lists : List (List ℕ)) → (first ≡ false → items ≡ []) → (others ≡ false → lists ≡ []) → (first && others) ≡ false
    → flat_map (λ item. map (λ ls. item ∷ ls) lists) items ≡ []
neither true others items lists here there none = no_others items lists (there none)
neither false others items lists here there none = no_first items lists (here refl)

impossible : (p : ℕ → Bool) (lists : List (List ℕ)) → is_possible p lists ≡ false → joint_lists p lists ≡ []
impossible p [] none = absurd (cc)
impossible p (list ∷ lists) none = neither (list_any p list) (is_possible p lists) (filter p list) (joint_lists p lists) (none_passes p list) (impossible p lists) none

no_more : (first others : Bool) (xs ys : List (List ℕ)) → (first ≡ false → xs ≡ []) → (others ≡ false → ys ≡ []) → (first || others) ≡ false → xs ++ ys ≡ []
no_more true others xs ys here there none = absurd (cc)
no_more false others xs ys here there none = ap (λ ls. ls ++ ys) (here refl) ∙ there none

pub none_possible : (p : ℕ → Bool) (actions : List (List (List ℕ))) → list_any (is_possible p) actions ≡ false → flat_map (joint_lists p) actions ≡ []
none_possible p [] none = refl
none_possible p (lists ∷ actions) none =
    no_more (is_possible p lists) (list_any (is_possible p) actions) (joint_lists p lists) (flat_map (joint_lists p) actions) (impossible p lists) (none_possible p actions) none

-- what is told of the choices of an action, where the others have none
pub of_action : (p : ℕ → Bool) (actions : List (List (List ℕ))) (i : ℕ) (lists read : List (List ℕ)) (commands : List ℕ) → i < length actions → lists ≡ get_or actions i lists
    → flat_map (joint_lists p) (drop i actions) ≡ flat_map (joint_lists p) actions → read ≡ lists → joint_lists p read ≡ commands ∷ []
    → list_any (is_possible p) (take (length actions - (i + 1)) (drop (i + 1) actions)) ≡ false → flat_map (joint_lists p) actions ≡ commands ∷ []
of_action p actions i lists read commands lt at so same one none =
    first_further (joint_lists p) actions i lists lt at so
    ∙ ap (λ ls. joint_lists p lists ++ ls) (none_possible p (drop (i + 1) actions)
    (ap (list_any (is_possible p)) (sym (take_all (length actions - (i + 1)) (drop (i + 1) actions) (omega (arith, length-drop (i + 1) actions)))) ∙ none))
    ∙ append-nil (joint_lists p lists)
    ∙ ap (joint_lists p) (sym same)
    ∙ one

-- and of a command without an action
pub of_single : (p : ℕ → Bool) (alone : List ℕ) (joint : List (List (List ℕ))) (command : ℕ) (chosen : List ℕ) → filter p alone ≡ command ∷ []
    → list_any (is_possible p) joint ≡ false → 1 ≤ length chosen → choice_lists p alone joint ≡ take 1 (set chosen 0 command) ∷ []
of_single p alone joint command chosen one none some =
    (λ i. map (λ number. number ∷ []) (one i) ++ none_possible p joint none i) ∙ ap (λ (ls : List ℕ). ls ∷ []) (sym (written_first chosen command some))

-- what is told of the choices, as the plan has them
pub told_same : (nodes read : List Node) (state : State) (alone first : List ℕ) (joint second : List (List (List ℕ))) (result : Choices) (chosen : List ℕ)
    → read ≡ nodes → first ≡ alone → second ≡ joint
    → AreTold (choice_lists (holds_at read state) first second) result chosen → AreTold (choice_lists (holds_at nodes state) alone joint) result chosen
told_same nodes read state alone first joint second result chosen a b c told =
    subst (λ (ls : List (List ℕ)). AreTold ls result chosen) (λ i. choice_lists (holds_at (a i) state) (b i) (c i)) told

-- what is told of the lists is told of the choices of the state
pub choices_told : (chain : Chain) (state : State) (plan : Plan) (p : ℕ → Bool) (result : Choices) (chosen : List ℕ) (most : ℕ) → KnownBy chain state plan p
    → AreTold (choice_lists p plan.partition.singles plan.partition.actions) result chosen → IsWithin result most → most ≡ length chosen
    → AreChoices chain state result chosen × HasChoice chain state result × IsWithin result 64
choices_told chain state plan p c.Nothing chosen most k told within long = (none_made chain state k.choices k.made (k.size ∙ ap length told), tt, tt)
choices_told chain state plan p c.Several chosen most k told within long = (tt, tt, tt)
choices_told chain state plan p (c.One size) chosen most k told within long =
    let one : 1 ≡ length k.choices = sym (k.size ∙ ap length told) in
    let lists : List (List ℕ) = choice_lists p plan.partition.singles plan.partition.actions in
    let found : slice_get lists 0 ≡ Some (take size chosen) = ap (λ (ls : List (List ℕ)). slice_get ls 0) told in
    let few : length (take size chosen) ≤ 64 =
    chosen_few chain (λ place. 0) state 0 1 0 k.choices lists (take size chosen) k.made k.commands one (omega arith) refl found in (
      one_known chain state k.choices lists (take size chosen) k.made k.commands one found,
      some_made chain state k.choices k.made (omega (arith, one)),
      omega (arith, few, length-take size chosen, within, long),
    )
