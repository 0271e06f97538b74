-- A state has no choice exactly where no command without an action is enabled and no action is possible.
use Rattle.std.proofs.Common.{◌≡◌, ℕ, ◌+◌, zero, suc, List, [], ◌∷◌, ◌++◌, map, drop, refl, sym, ap, ◌∙◌, Bool, true, false, not, ◌&&◌, ◌||◌, Result, Ok, Err, Some}
use Rattle.std.specs.Prelude.{slice_get, flat_map, filter, if◌then◌else◌}
use Rattle.std.specs.List.{list_any, list_all, enumerate_from}
use Rattle.std.specs.Option.{option_map_or}
use Rattle.chain_model.specs.declared.outcome.TraceFault.{TraceFault}
use Rattle.chain_model.specs.declared.chain.Act.{Act}
use Rattle.chain_model.specs.declared.chain.Action.{Action}
use Rattle.chain_model.specs.declared.chain.Chain.{Chain}
use Rattle.chain_model.specs.Chain.{is_part, is_unlabelled}
use Rattle.chain_model.specs.Results.{◌>>=◌}
use Rattle.chain_model.specs.States.{State}
use Rattle.chain_model.specs.Values.{Valued, truth}
use Rattle.chain_model.specs.Choices.{value_in, enabled_from, command_is, combinations, parts_of, single_choice, action_choice, action_choices, choices_among, choices_of}
use Rattle.chain_model.specs.Labels.{is_empty, labels_of}
use Rattle.guard_code.specs.Wholes.{truth_of}
use Rattle.guard_code.specs.Guards.{told_act, holds, guards_fault, is_single, is_part_of, some_enabled, is_possible, is_stuck, stuck_result}

-- ---- the same said of the chain's commands themselves

abbrev is_true : Valued → Bool
is_true (Ok value) = truth value
is_true (Err fault) = false

abbrev is_enabled : State → Act → Bool
is_enabled state act = is_true (value_in state act.guard)

abbrev act_guards_fault : State → List Act → Result (Unit {0}) TraceFault
act_guards_fault state [] = Ok tt
act_guards_fault state (act ∷ acts) = value_in state act.guard >>= λ value. act_guards_fault state acts

abbrev some_act : (Act → Bool) → State → List Act → Bool
some_act test state acts = list_any (λ act. test act && is_enabled state act) acts

abbrev action_possible : State → List Act → ℕ × Action → Bool
action_possible state acts action = list_all (λ owner. some_act (is_part action.0 owner) state acts) action.1.takes

abbrev is_deadlock : Chain → State → Bool
is_deadlock chain state =
    not (some_act is_unlabelled state chain.commands) && not (list_any (action_possible state chain.commands) (enumerate_from 0 chain.actions))

-- the item at which the rest of a list begins
first_at : {A : Type 0} (xs : List A) (n : ℕ) (x : A) (rest : List A) → drop n xs ≡ x ∷ rest → slice_get xs n ≡ Some x
first_at [] zero x rest is = absurd (cc)
first_at [] (suc n) x rest is = absurd (cc)
first_at (y ∷ ys) zero x rest is = let same : y ≡ x = cc in ap Some same
first_at (y ∷ ys) (suc n) x rest is = first_at ys n x rest is

-- and what follows it
rest_at : {A : Type 0} (xs : List A) (n : ℕ) (x : A) (rest : List A) → drop n xs ≡ x ∷ rest → drop (suc n) xs ≡ rest
rest_at [] zero x rest is = absurd (cc)
rest_at [] (suc n) x rest is = absurd (cc)
rest_at (y ∷ ys) zero x rest is = let same : ys ≡ rest = cc in same
rest_at (y ∷ ys) (suc n) x rest is = rest_at ys n x rest is

-- the enabled commands go with the guards: one fault, or as many of each kind
Agree : List Act → State → List Act → Result (List ℕ) TraceFault → Result (Unit {0}) TraceFault → Type 0
Agree whole state acts (Ok enabled) (Ok _) = (test : Act → Bool) → list_any (command_is test whole) enabled ≡ some_act test state acts
Agree whole state acts (Err a) (Err b) = a ≡ b
Agree whole state acts (Ok enabled) (Err b) = ⊥
Agree whole state acts (Err a) (Ok _) = ⊥

and_true : (a : Bool) → (a && true) ≡ a
and_true true = refl
and_true false = refl

and_false : (a : Bool) → (a && false) ≡ false
and_false true = refl
and_false false = refl

-- one command further, whose guard has this truth
any_next : (whole : List Act) (test : Act → Bool) (act : Act) (n : ℕ) (enabled : List ℕ) (some b holds : Bool)
    → slice_get whole n ≡ Some act → holds ≡ b → list_any (command_is test whole) enabled ≡ some
    → list_any (command_is test whole) (if b then n ∷ enabled else enabled) ≡ ((test act && holds) || some)
any_next whole test act n enabled some true holds there is so =
    ap (λ found. option_map_or test found false || list_any (command_is test whole) enabled) there
    ∙ ap (λ s. test act || s) so ∙ ap (λ b. b || some) (sym (and_true (test act))) ∙ ap (λ h. (test act && h) || some) (sym is)
any_next whole test act n enabled some false holds there is so =
    so ∙ ap (λ b. b || some) (sym (and_false (test act))) ∙ ap (λ h. (test act && h) || some) (sym is)

agree_next : (whole : List Act) (state : State) (act : Act) (acts : List Act) (n : ℕ) (v : Valued) (e : Result (List ℕ) TraceFault) (g : Result (Unit {0}) TraceFault)
    → slice_get whole n ≡ Some act → value_in state act.guard ≡ v → Agree whole state acts e g
    → Agree whole state (act ∷ acts) (v >>= λ value. e >>= λ others. Ok (if truth value then n ∷ others else others)) (v >>= λ value. g)
unfolding Agree
agree_next whole state act acts n (Err fault) e g there is so = refl
agree_next whole state act acts n (Ok value) (Err a) (Err b) there is so = so
agree_next whole state act acts n (Ok value) (Err a) (Ok u) there is so = absurd so
agree_next whole state act acts n (Ok value) (Ok enabled) (Err b) there is so = absurd so
agree_next whole state act acts n (Ok value) (Ok enabled) (Ok u) there is so =
    λ test. any_next whole test act n enabled (some_act test state acts) (truth value) (is_enabled state act) there (ap is_true is) (so test)

agree : (whole : List Act) (state : State) (acts : List Act) (n : ℕ) → drop n whole ≡ acts → Agree whole state acts (enabled_from n state acts) (act_guards_fault state acts)
unfolding Agree
agree whole state [] n is = λ test. refl
agree whole state (act ∷ acts) n is =
    agree_next whole state act acts n (value_in state act.guard) (enabled_from (suc n) state acts) (act_guards_fault state acts)
    (first_at whole n act acts is) refl (agree whole state acts (suc n) (rest_at whole n act acts is))

-- ---- lists without an item

empty-append : {A : Type 0} (xs ys : List A) → is_empty (xs ++ ys) ≡ (is_empty xs && is_empty ys)
empty-append [] ys = refl
empty-append (x ∷ xs) ys = refl

empty-map : {A B : Type 0} (f : A → B) (xs : List A) → is_empty (map f xs) ≡ is_empty xs
empty-map f [] = refl
empty-map f (x ∷ xs) = refl

kept : (b : Bool) (n : ℕ) (rest : List ℕ) (some : Bool) → is_empty rest ≡ not some → is_empty (if b then n ∷ rest else rest) ≡ not (b || some)
kept true n rest some is = refl
kept false n rest some is = is

empty-filter : (test : ℕ → Bool) (xs : List ℕ) → is_empty (filter test xs) ≡ not (list_any test xs)
empty-filter test [] = refl
empty-filter test (x ∷ xs) = kept (test x) x (filter test xs) (list_any test xs) (empty-filter test xs)

-- a product of lists is empty where one of them is
empty-product : (lists : List (List ℕ)) (items : List ℕ)
    → is_empty (flat_map (λ item. map (λ others. item ∷ others) lists) items) ≡ (is_empty items || is_empty lists)
empty-product lists [] = refl
empty-product [] (x ∷ xs) = none_of xs where
  none_of : (items : List ℕ) → is_empty (flat_map (λ (item : ℕ). map (λ (others : List ℕ). item ∷ others) []) items) ≡ true
  none_of [] = refl
  none_of (y ∷ ys) = none_of ys
empty-product (l ∷ ls) (x ∷ xs) = refl

not_both : (a b : Bool) → (not a || not b) ≡ not (a && b)
not_both true b = refl
not_both false b = refl

not_either : (a b : Bool) → (not a && not b) ≡ not (a || b)
not_either true b = refl
not_either false b = refl

-- the combinations of an action's parts
empty-parts : (acts : List Act) (state : State) (enabled : List ℕ) (action : ℕ) (owners : List ℕ)
    → ((test : Act → Bool) → list_any (command_is test acts) enabled ≡ some_act test state acts)
    → is_empty (combinations (parts_of acts enabled action owners)) ≡ not (list_all (λ owner. some_act (is_part action owner) state acts) owners)
empty-parts acts state enabled action [] any = refl
empty-parts acts state enabled action (owner ∷ owners) any =
    let here : Bool = some_act (is_part action owner) state acts in
    let others : Bool = list_all (λ o. some_act (is_part action o) state acts) owners in
    empty-product (combinations (parts_of acts enabled action owners)) (filter (command_is (is_part action owner) acts) enabled)
    ∙ ap (λ b. b || is_empty (combinations (parts_of acts enabled action owners)))
    (empty-filter (command_is (is_part action owner) acts) enabled ∙ ap not (any (is_part action owner)))
    ∙ ap (λ b. not here || b) (empty-parts acts state enabled action owners any)
    ∙ not_both here others

-- the choices of the actions
empty-actions : (acts : List Act) (state : State) (enabled : List ℕ) (actions : List (ℕ × Action))
    → ((test : Act → Bool) → list_any (command_is test acts) enabled ≡ some_act test state acts)
    → is_empty (flat_map (λ action. action_choices acts enabled action.0 action.1.takes) actions) ≡ not (list_any (action_possible state acts) actions)
empty-actions acts state enabled [] any = refl
empty-actions acts state enabled (action ∷ actions) any =
    let rest : List _ = flat_map (λ (a : ℕ × Action). action_choices acts enabled a.0 a.1.takes) actions in
    empty-append (action_choices acts enabled action.0 action.1.takes) rest
    ∙ ap (λ b. b && is_empty rest)
    (empty-map (action_choice action.0) (combinations (parts_of acts enabled action.0 action.1.takes)) ∙ empty-parts acts state enabled action.0 action.1.takes any)
    ∙ ap (λ b. not (action_possible state acts action) && b) (empty-actions acts state enabled actions any)
    ∙ not_either (action_possible state acts action) (list_any (action_possible state acts) actions)

empty-choices : (chain : Chain) (state : State) (enabled : List ℕ)
    → ((test : Act → Bool) → list_any (command_is test chain.commands) enabled ≡ some_act test state chain.commands)
    → is_empty (choices_among chain enabled) ≡ is_deadlock chain state
empty-choices chain state enabled any =
    let others : List _ = flat_map (λ (a : ℕ × Action). action_choices chain.commands enabled a.0 a.1.takes) (enumerate_from 0 chain.actions) in
    empty-append (map single_choice (filter (command_is is_unlabelled chain.commands) enabled)) others
    ∙ ap (λ b. b && is_empty others)
    (empty-map single_choice (filter (command_is is_unlabelled chain.commands) enabled)
    ∙ empty-filter (command_is is_unlabelled chain.commands) enabled ∙ ap not (any is_unlabelled))
    ∙ ap (λ b. not (some_act is_unlabelled state chain.commands) && b) (empty-actions chain.commands state enabled (enumerate_from 0 chain.actions) any)

deadlock_of : (chain : Chain) (state : State) (e : Result (List ℕ) TraceFault) (g : Result (Unit {0}) TraceFault) → Agree chain.commands state chain.commands e g
    → ((e >>= λ enabled. Ok (choices_among chain enabled)) >>= λ choices. Ok (is_empty choices)) ≡ (g >>= λ u. Ok (is_deadlock chain state))
unfolding Agree
deadlock_of chain state (Err a) (Err b) so = ap Err so
deadlock_of chain state (Err a) (Ok u) so = absurd so
deadlock_of chain state (Ok enabled) (Err b) so = absurd so
deadlock_of chain state (Ok enabled) (Ok u) so = ap Ok (empty-choices chain state enabled so)

-- what the label "deadlock" says, by the guards alone
deadlock_by_guards : (chain : Chain) (state : State) → (labels_of chain state).deadlock ≡ (act_guards_fault state chain.commands >>= λ u. Ok (is_deadlock chain state))
unfolding choices_of
deadlock_by_guards chain state =
    deadlock_of chain state (enabled_from 0 state chain.commands) (act_guards_fault state chain.commands) (agree chain.commands state chain.commands 0 refl)

-- ---- what is told of the commands says the same

same_truth : (x : Valued) → holds (truth_of x) ≡ is_true x
same_truth (Ok value) = refl
same_truth (Err fault) = refl

same_fault : (x : Valued) (a b : Result (Unit {0}) TraceFault) → a ≡ b → (truth_of x >>= λ h. a) ≡ (x >>= λ v. b)
same_fault (Ok value) a b is = is
same_fault (Err fault) a b is = refl

told_fault : (state : State) (acts : List Act) → guards_fault (map (told_act state) acts) ≡ act_guards_fault state acts
told_fault state [] = refl
told_fault state (act ∷ acts) = same_fault (value_in state act.guard) (guards_fault (map (told_act state) acts)) (act_guards_fault state acts) (told_fault state acts)

told_single : (state : State) (acts : List Act) → some_enabled is_single (map (told_act state) acts) ≡ some_act is_unlabelled state acts
told_single state [] = refl
told_single state (act ∷ acts) =
    ap (λ h. (is_unlabelled act && h) || some_enabled is_single (map (told_act state) acts)) (same_truth (value_in state act.guard))
    ∙ ap (λ b. (is_unlabelled act && is_enabled state act) || b) (told_single state acts)

told_part : (action owner : ℕ) (state : State) (acts : List Act) → some_enabled (is_part_of action owner) (map (told_act state) acts) ≡ some_act (is_part action owner) state acts
told_part action owner state [] = refl
told_part action owner state (act ∷ acts) =
    ap (λ h. (is_part action owner act && h) || some_enabled (is_part_of action owner) (map (told_act state) acts)) (same_truth (value_in state act.guard))
    ∙ ap (λ b. (is_part action owner act && is_enabled state act) || b) (told_part action owner state acts)

told_parts : (action : ℕ) (owners : List ℕ) (state : State) (acts : List Act)
    → list_all (λ owner. some_enabled (is_part_of action owner) (map (told_act state) acts)) owners ≡ list_all (λ owner. some_act (is_part action owner) state acts) owners
told_parts action [] state acts = refl
told_parts action (owner ∷ owners) state acts =
    ap (λ b. b && list_all (λ o. some_enabled (is_part_of action o) (map (told_act state) acts)) owners) (told_part action owner state acts)
    ∙ ap (λ b. some_act (is_part action owner) state acts && b) (told_parts action owners state acts)

told_actions : (number : ℕ) (actions : List Action) (state : State) (acts : List Act)
    → list_any (is_possible (map (told_act state) acts)) (enumerate_from number (map (λ action. action.takes) actions))
    ≡ list_any (action_possible state acts) (enumerate_from number actions)
told_actions number [] state acts = refl
told_actions number (action ∷ actions) state acts =
    ap (λ b. b || list_any (is_possible (map (told_act state) acts)) (enumerate_from (number + 1) (map (λ a. a.takes) actions))) (told_parts number action.takes state acts)
    ∙ ap (λ b. action_possible state acts (number, action) || b) (told_actions (number + 1) actions state acts)

-- what the label "deadlock" says, by what the guards of all commands say
pub stuck-is : (chain : Chain) (state : State)
    → stuck_result (map (told_act state) chain.commands) (map (λ action. action.takes) chain.actions) ≡ (labels_of chain state).deadlock
stuck-is chain state =
    ap (λ (r : Result (Unit {0}) TraceFault). r >>= λ u. Ok (is_stuck (map (told_act state) chain.commands) (map (λ action. action.takes) chain.actions))) (told_fault state chain.commands)
    ∙ ap (λ (b : Bool). act_guards_fault state chain.commands >>= λ u. Ok (not b && not (list_any (is_possible (map (told_act state) chain.commands)) (enumerate_from 0 (map (λ action. action.takes) chain.actions))))) (told_single state chain.commands)
    ∙ ap (λ (b : Bool). act_guards_fault state chain.commands >>= λ u. Ok (not (some_act is_unlabelled state chain.commands) && not b)) (told_actions 0 chain.actions state chain.commands)
    ∙ sym (deadlock_by_guards chain state)
