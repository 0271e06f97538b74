-- The choices of a state: which they are, and in which order they stand.
use Rattle.std.proofs.Common.{◌≡◌, ℕ, ◌+◌, ◌<◌, zero, suc, List, [], ◌∷◌, ◌++◌, Bool, true, false, cond, map, refl, sym, ap, ◌∙◌, subst, inl, inr, arith}
use Rattle.std.specs.Prelude.{◌⊎◌, filter, flat_map, Option, Some, None, Result, Ok, Err, slice_get, if◌then◌else◌}
use Rattle.std.specs.List.{AllPairs, Contains, enumerate_from}
use Rattle.std.specs.Option.{option_map_or}
use Rattle.std.proofs.lemmas.Bool.{cases_Bool, cond-true, cond-false}
use Rattle.std.proofs.lemmas.Option.{same_Some, slice_get_cases}
use Rattle.chain_model.specs.declared.outcome.TraceFault.{TraceFault}
use Rattle.chain_model.specs.declared.values.Value.{Value}
use Rattle.chain_model.specs.declared.chain.Act.{Act}
use Rattle.chain_model.specs.declared.chain.Action.{Action}
use Rattle.chain_model.specs.declared.chain.Chain.{Chain}
use Rattle.chain_model.specs.declared.steps.Choice.{Choice}
use Rattle.chain_model.specs.Chain.{is_part, is_unlabelled}
use Rattle.chain_model.specs.States.{State}
use Rattle.chain_model.specs.Results.{◌>>=◌}
use Rattle.chain_model.specs.Values.{truth}
use Rattle.chain_model.specs.Choices.{value_in, enabled_from, command_is, combinations, parts_of, single_choice, action_choice, action_choices, choices_among, choices_of, IsEnabled, AreParts, IsChoice, IsBefore, IsEarlier}
use Rattle.chain_model.specs.Choices.AreParts.{none, more}
use Rattle.chain_model.specs.Choices.IsChoice.{single, joint}
use Rattle.chain_model.proofs.MemberLemmas.{In, contains-from_in, in-from_contains, in-front, in-back, in-parts, in-map, from-map, in-flat_map, from-flat_map, in-filter, from-filter, in-numbered, from-numbered, Ordered, pairs-from_ordered, ordered-append, ordered-map, ordered-filter, ordered-flat_map}

-- where what is bound gives a value, both parts do
pub bind-Ok : {A B : Type 0} (r : Result A TraceFault) (f : A → Result B TraceFault) (y : B) → (r >>= f) ≡ Ok y
    → (x : A) × (r ≡ Ok x) × (f x ≡ Ok y)
bind-Ok (Ok x) f y made = (x, refl, made)
bind-Ok (Err fault) f y made = absurd (cc)

-- a result is these numbers
abbrev Gives : List ℕ → Result (List ℕ) TraceFault → Type 0
Gives numbers result = result ≡ Ok numbers

-- a result is these choices
abbrev IsMade : List Choice → Result (List Choice) TraceFault → Type 0
IsMade choices result = result ≡ Ok choices

-- the guard of a command is true in a state
pub record Enables (state : State) (act : Act) : Type 0 where
  pub value : Value
  pub guard : value_in state act.guard ≡ Ok value
  pub holds : truth value ≡ true

-- a number is that of a command whose guard is true
pub record IsNumber (base : ℕ) (state : State) (acts : List Act) (number : ℕ) : Type 0 where
  pub index : ℕ
  pub is : number ≡ base + index
  pub act : Act
  pub there : slice_get acts index ≡ Some act
  pub enables : Enables state act

-- a number among the commands that follow one
next_number : (base : ℕ) (state : State) (act : Act) (acts : List Act) (k : ℕ) → IsNumber (suc base) state acts k → IsNumber base state (act ∷ acts) k
next_number base state act acts k number =
    record {
      index = suc number.index;
      is = omega (arith, number.is);
      act = number.act;
      there = number.there;
      enables = number.enables;
    }

-- of several commands the enabled ones are the first, where its guard is true, and those of the rest
record Split (base : ℕ) (state : State) (act : Act) (acts : List Act) (enabled : List ℕ) : Type 0 where
  value : Value
  guard : value_in state act.guard ≡ Ok value
  others : List ℕ
  rest : enabled_from (suc base) state acts ≡ Ok others
  same : (if truth value then base ∷ others else others) ≡ enabled

split : (base : ℕ) (state : State) (act : Act) (acts : List Act) (enabled : List ℕ) → enabled_from base state (act ∷ acts) ≡ Ok enabled
    → Split base state act acts enabled
split base state act acts enabled made =
    let first : (value : Value) × (value_in state act.guard ≡ Ok value)
    × Gives enabled (enabled_from (suc base) state acts >>= λ others. Ok (if truth value then base ∷ others else others)) =
    bind-Ok (value_in state act.guard) (λ value. enabled_from (suc base) state acts >>= λ others. Ok (if truth value then base ∷ others else others)) enabled made in
    let second : (others : List ℕ) × (enabled_from (suc base) state acts ≡ Ok others)
    × Gives enabled (Ok (if truth first.0 then base ∷ others else others)) =
    bind-Ok (enabled_from (suc base) state acts) (λ others. Ok (if truth first.0 then base ∷ others else others)) enabled first.2 in
    record { value = first.0; guard = first.1; others = second.0; rest = second.1; same = cc }

-- each number of the enabled commands is that of a command whose guard is true
from_enabled : (base : ℕ) (state : State) (acts : List Act) (enabled : List ℕ) → enabled_from base state acts ≡ Ok enabled
    → (k : ℕ) → In k enabled → IsNumber base state acts k
from_enabled base state [] enabled made k within =
    let same : [] ≡ enabled = cc in
    absurd (subst (In k) (sym same) within)
from_enabled base state (act ∷ acts) enabled made k within =
    let s : Split base state act acts enabled = split base state act acts enabled made in
    let here : In k (if truth s.value then base ∷ s.others else s.others) = subst (In k) (sym s.same) within in
    elim (cases_Bool (truth s.value)) [
      | inl holds ↦
          elim (subst (In k) (cond-true (truth s.value) (base ∷ s.others) s.others holds) here) [
            | inl is ↦
                record {
                  index = 0;
                  is = omega (arith, is);
                  act = act;
                  there = refl;
                  enables = record { value = s.value; guard = s.guard; holds = holds };
                }
            | inr later ↦ next_number base state act acts k (from_enabled (suc base) state acts s.others s.rest k later)
          ]
      | inr fails ↦
          next_number base state act acts k
          (from_enabled (suc base) state acts s.others s.rest k
          (subst (In k) (cond-false (truth s.value) (base ∷ s.others) s.others fails) here))
    ]

-- and each command whose guard is true is among them
to_enabled : (base : ℕ) (state : State) (acts : List Act) (enabled : List ℕ) → enabled_from base state acts ≡ Ok enabled
    → (i : ℕ) (act : Act) → slice_get acts i ≡ Some act → Enables state act → In (base + i) enabled
to_enabled base state [] enabled made i act there enables = absurd (cc)
to_enabled base state (first ∷ acts) enabled made zero act there enables =
    let s : Split base state first acts enabled = split base state first acts enabled made in
    let own : first ≡ act = cc in
    let values : Ok s.value ≡ Ok enables.value = sym s.guard ∙ (ap (λ (a : Act). value_in state a.guard) own ∙ enables.guard) in
    let value : s.value ≡ enables.value = cc in
    let number : base ≡ base + 0 = omega arith in
    subst (In (base + 0)) (sym (cond-true (truth s.value) (base ∷ s.others) s.others (ap truth value ∙ enables.holds)) ∙ s.same) (inl number)
to_enabled base state (first ∷ acts) enabled made (suc i) act there enables =
    let s : Split base state first acts enabled = split base state first acts enabled made in
    let number : suc base + i ≡ base + suc i = omega arith in
    let later : In (base + suc i) s.others =
    subst (λ (n : ℕ). In n s.others) number (to_enabled (suc base) state acts s.others s.rest i act there enables) in
    elim (cases_Bool (truth s.value)) [
      | inl holds ↦ subst (In (base + suc i)) (sym (cond-true (truth s.value) (base ∷ s.others) s.others holds) ∙ s.same) (inr later)
      | inr fails ↦ subst (In (base + suc i)) (sym (cond-false (truth s.value) (base ∷ s.others) s.others fails) ∙ s.same) later
    ]

-- the numbers of the enabled commands rise
enabled_rise : (base : ℕ) (state : State) (acts : List Act) (enabled : List ℕ) → enabled_from base state acts ≡ Ok enabled → Ordered ◌<◌ enabled
enabled_rise base state [] enabled made =
    let same : [] ≡ enabled = cc in
    subst (Ordered ◌<◌) same tt
enabled_rise base state (act ∷ acts) enabled made =
    let s : Split base state act acts enabled = split base state act acts enabled made in
    let rest : Ordered ◌<◌ s.others = enabled_rise (suc base) state acts s.others s.rest in
    elim (cases_Bool (truth s.value)) [
      | inl holds ↦
          subst (Ordered ◌<◌) (sym (cond-true (truth s.value) (base ∷ s.others) s.others holds) ∙ s.same)
          (λ y within. omega (arith, (from_enabled (suc base) state acts s.others s.rest y within).is), rest)
      | inr fails ↦ subst (Ordered ◌<◌) (sym (cond-false (truth s.value) (base ∷ s.others) s.others fails) ∙ s.same) rest
    ]

-- the enabled commands that pass a test
from_filtered : (chain : Chain) (state : State) (enabled : List ℕ) → enabled_from 0 state chain.commands ≡ Ok enabled
    → (test : Act → Bool) (k : ℕ) → In k (filter (command_is test chain.commands) enabled) → IsEnabled chain state test k
from_filtered chain state enabled made test k within =
    let kept : In k enabled × (command_is test chain.commands k ≡ true) = from-filter (command_is test chain.commands) k enabled within in
    let number : IsNumber 0 state chain.commands k = from_enabled 0 state chain.commands enabled made k kept.0 in
    let index : number.index ≡ k = omega (arith, number.is) in
    let there : slice_get chain.commands k ≡ Some number.act = ap (slice_get chain.commands) (sym index) ∙ number.there in
    record {
      act = number.act;
      there = there;
      passes = sym (ap (λ (o : Option Act). option_map_or test o false) there) ∙ kept.1;
      value = number.enables.value;
      guard = number.enables.guard;
      holds = number.enables.holds;
    }

to_filtered : (chain : Chain) (state : State) (enabled : List ℕ) → enabled_from 0 state chain.commands ≡ Ok enabled
    → (test : Act → Bool) (k : ℕ) → IsEnabled chain state test k → In k (filter (command_is test chain.commands) enabled)
to_filtered chain state enabled made test k able =
    let number : 0 + k ≡ k = omega arith in
    in-filter (command_is test chain.commands) k enabled
    (subst (λ (n : ℕ). In n enabled) number
    (to_enabled 0 state chain.commands enabled made k able.act able.there (record { value = able.value; guard = able.guard; holds = able.holds })))
    (ap (λ (o : Option Act). option_map_or test o false) able.there ∙ able.passes)

-- the combinations of the parts of modules are the lists of one part of each
parts-from_in : (chain : Chain) (state : State) (enabled : List ℕ) → enabled_from 0 state chain.commands ≡ Ok enabled
    → (action : ℕ) (owners commands : List ℕ) → In commands (combinations (parts_of chain.commands enabled action owners))
    → AreParts chain state action owners commands
parts-from_in chain state enabled made action [] commands (inl same) = subst (AreParts chain state action []) same none
parts-from_in chain state enabled made action [] commands (inr other) = absurd other
parts-from_in chain state enabled made action (owner ∷ owners) commands within =
    let rest : List (List ℕ) = combinations (parts_of chain.commands enabled action owners) in
    let first : (item : ℕ) × In item (filter (command_is (is_part action owner) chain.commands) enabled) × In commands (map (λ others. item ∷ others) rest) =
    from-flat_map (λ item. map (λ others. item ∷ others) rest) commands (filter (command_is (is_part action owner) chain.commands) enabled) within in
    let others : (numbers : List ℕ) × In numbers rest × ((first.0 ∷ numbers) ≡ commands) =
    from-map (λ (numbers : List ℕ). first.0 ∷ numbers) commands rest first.2 in
    subst (AreParts chain state action (owner ∷ owners)) others.2
    (more (from_filtered chain state enabled made (is_part action owner) first.0 first.1)
    (parts-from_in chain state enabled made action owners others.0 others.1))

in-from_parts : (chain : Chain) (state : State) (enabled : List ℕ) → enabled_from 0 state chain.commands ≡ Ok enabled
    → (action : ℕ) (owners commands : List ℕ) → AreParts chain state action owners commands
    → In commands (combinations (parts_of chain.commands enabled action owners))
in-from_parts chain state enabled made action _ _ none = inl refl
in-from_parts chain state enabled made action _ _ (more {owner = owner} {number = number} {owners = owners} {numbers = numbers} able rest) =
    in-flat_map (λ item. map (λ others. item ∷ others) (combinations (parts_of chain.commands enabled action owners))) number (number ∷ numbers)
    (filter (command_is (is_part action owner) chain.commands) enabled)
    (to_filtered chain state enabled made (is_part action owner) number able)
    (in-map (λ (others : List ℕ). number ∷ others) numbers (combinations (parts_of chain.commands enabled action owners))
    (in-from_parts chain state enabled made action owners numbers rest))

-- and they are in order
combinations_rise : (acts : List Act) (enabled : List ℕ) → Ordered ◌<◌ enabled → (action : ℕ) (owners : List ℕ)
    → Ordered IsBefore (combinations (parts_of acts enabled action owners))
combinations_rise acts enabled rise action [] = (λ y within. absurd within, tt)
combinations_rise acts enabled rise action (owner ∷ owners) =
    let rest : List (List ℕ) = combinations (parts_of acts enabled action owners) in
    ordered-flat_map ◌<◌ IsBefore (λ item. map (λ others. item ∷ others) rest) (filter (command_is (is_part action owner) acts) enabled)
    (λ item _. ordered-map IsBefore IsBefore (λ others. item ∷ others) rest (λ x y before. inr (refl, before)) (combinations_rise acts enabled rise action owners))
    (λ item later a b less first second.
    let front : (numbers : List ℕ) × In numbers rest × ((item ∷ numbers) ≡ a) = from-map (λ (numbers : List ℕ). item ∷ numbers) a rest first in
    let back : (numbers : List ℕ) × In numbers rest × ((later ∷ numbers) ≡ b) = from-map (λ (numbers : List ℕ). later ∷ numbers) b rest second in
    subst (λ (x : List ℕ). IsBefore x b) front.2 (subst (IsBefore (item ∷ front.0)) back.2 (inl less)))
    (ordered-filter ◌<◌ (command_is (is_part action owner) acts) enabled rise)

-- each of the choices is one of the state
choice-from_in : (chain : Chain) (state : State) (enabled : List ℕ) → enabled_from 0 state chain.commands ≡ Ok enabled
    → (choice : Choice) → In choice (choices_among chain enabled) → IsChoice chain state choice
choice-from_in chain state enabled made choice within =
    elim (in-parts choice (map single_choice (filter (command_is is_unlabelled chain.commands) enabled))
    (flat_map (λ action. action_choices chain.commands enabled action.0 action.1.takes) (enumerate_from 0 chain.actions)) within) [
      | inl front ↦
          let from : (number : ℕ) × In number (filter (command_is is_unlabelled chain.commands) enabled) × (single_choice number ≡ choice) =
          from-map single_choice choice (filter (command_is is_unlabelled chain.commands) enabled) front in
          subst (IsChoice chain state) from.2 (single (from_filtered chain state enabled made is_unlabelled from.0 from.1))
      | inr back ↦
          let from : (p : ℕ × Action) × In p (enumerate_from 0 chain.actions) × In choice (action_choices chain.commands enabled p.0 p.1.takes) =
          from-flat_map (λ action. action_choices chain.commands enabled action.0 action.1.takes) choice (enumerate_from 0 chain.actions) back in
          let named : (i : ℕ) × (from.0.0 ≡ 0 + i) × (slice_get chain.actions i ≡ Some from.0.1) = from-numbered 0 from.0 chain.actions from.1 in
          let number : named.0 ≡ from.0.0 = omega (arith, named.1) in
          let parts : (commands : List ℕ) × In commands (combinations (parts_of chain.commands enabled from.0.0 from.0.1.takes)) × (action_choice from.0.0 commands ≡ choice) =
          from-map (action_choice from.0.0) choice (combinations (parts_of chain.commands enabled from.0.0 from.0.1.takes)) from.2 in
          subst (IsChoice chain state) parts.2
          (joint (ap (slice_get chain.actions) (sym number) ∙ named.2)
          (parts-from_in chain state enabled made from.0.0 from.0.1.takes parts.0 parts.1))
    ]

-- and each choice of the state is one of them
in-from_choice : (chain : Chain) (state : State) (enabled : List ℕ) → enabled_from 0 state chain.commands ≡ Ok enabled
    → (choice : Choice) → IsChoice chain state choice → In choice (choices_among chain enabled)
in-from_choice chain state enabled made _ (single {number = number} able) =
    in-front (single_choice number) (map single_choice (filter (command_is is_unlabelled chain.commands) enabled))
    (flat_map (λ action. action_choices chain.commands enabled action.0 action.1.takes) (enumerate_from 0 chain.actions))
    (in-map single_choice number (filter (command_is is_unlabelled chain.commands) enabled)
    (to_filtered chain state enabled made is_unlabelled number able))
in-from_choice chain state enabled made _ (joint {number = number} {action = action} {commands = commands} there parts) =
    let same : 0 + number ≡ number = omega arith in
    in-back (action_choice number commands) (map single_choice (filter (command_is is_unlabelled chain.commands) enabled))
    (flat_map (λ action. action_choices chain.commands enabled action.0 action.1.takes) (enumerate_from 0 chain.actions))
    (in-flat_map (λ action. action_choices chain.commands enabled action.0 action.1.takes) (number, action) (action_choice number commands) (enumerate_from 0 chain.actions)
    (subst (λ (n : ℕ). In (n, action) (enumerate_from 0 chain.actions)) same (in-numbered 0 number action chain.actions there))
    (in-map (action_choice number) commands (combinations (parts_of chain.commands enabled number action.takes))
    (in-from_parts chain state enabled made number action.takes commands parts)))

-- items stand in the order of their numbers
numbers_rise : {A : Type 0} (base : ℕ) (xs : List A) → Ordered (λ (p q : ℕ × A). p.0 < q.0) (enumerate_from base xs)
numbers_rise base [] = tt
numbers_rise {A} base (x ∷ xs) = (
  λ q within.
      let from : (i : ℕ) × (q.0 ≡ base + 1 + i) × (slice_get xs i ≡ Some q.1) = from-numbered {A = A} (base + 1) q xs within in
      omega (arith, from.1),
  numbers_rise {A = A} (base + 1) xs,
)

-- the choices are in order
choices_rise : (chain : Chain) (enabled : List ℕ) → Ordered ◌<◌ enabled → Ordered IsEarlier (choices_among chain enabled)
choices_rise chain enabled rise =
    let singles : List ℕ = filter (command_is is_unlabelled chain.commands) enabled in
    ordered-append IsEarlier (map single_choice singles)
    (flat_map (λ action. action_choices chain.commands enabled action.0 action.1.takes) (enumerate_from 0 chain.actions))
    (ordered-map ◌<◌ IsEarlier single_choice singles (λ x y less. inr (refl, inl less))
    (ordered-filter ◌<◌ (command_is is_unlabelled chain.commands) enabled rise))
    (ordered-flat_map (λ (p q : ℕ × Action). p.0 < q.0) IsEarlier (λ action. action_choices chain.commands enabled action.0 action.1.takes) (enumerate_from 0 chain.actions)
    (λ p _. ordered-map IsBefore IsEarlier (action_choice p.0) (combinations (parts_of chain.commands enabled p.0 p.1.takes)) (λ x y before. inr (refl, before))
    (combinations_rise chain.commands enabled rise p.0 p.1.takes))
    (λ p q a b less first second.
    let front : (commands : List ℕ) × In commands (combinations (parts_of chain.commands enabled p.0 p.1.takes)) × (action_choice p.0 commands ≡ a) =
    from-map (action_choice p.0) a (combinations (parts_of chain.commands enabled p.0 p.1.takes)) first in
    let back : (commands : List ℕ) × In commands (combinations (parts_of chain.commands enabled q.0 q.1.takes)) × (action_choice q.0 commands ≡ b) =
    from-map (action_choice q.0) b (combinations (parts_of chain.commands enabled q.0 q.1.takes)) second in
    subst (λ (x : Choice). IsEarlier x b) front.2 (subst (IsEarlier (action_choice p.0 front.0)) back.2 (inl (omega (arith, less)))))
    (numbers_rise 0 chain.actions))
    (λ a b first second.
    let front : (number : ℕ) × In number singles × (single_choice number ≡ a) = from-map single_choice a singles first in
    let back : (p : ℕ × Action) × In p (enumerate_from 0 chain.actions) × In b (action_choices chain.commands enabled p.0 p.1.takes) =
    from-flat_map (λ action. action_choices chain.commands enabled action.0 action.1.takes) b (enumerate_from 0 chain.actions) second in
    let parts : (commands : List ℕ) × In commands (combinations (parts_of chain.commands enabled back.0.0 back.0.1.takes)) × (action_choice back.0.0 commands ≡ b) =
    from-map (action_choice back.0.0) b (combinations (parts_of chain.commands enabled back.0.0 back.0.1.takes)) back.2 in
    subst (λ (x : Choice). IsEarlier x b) front.2 (subst (IsEarlier (single_choice front.0)) parts.2 (inl (omega arith))))

-- the enabled commands of a state whose choices are known
pub record Known (chain : Chain) (state : State) (choices : List Choice) : Type 0 where
  pub enabled : List ℕ
  pub made : enabled_from 0 state chain.commands ≡ Ok enabled
  pub same : choices_among chain enabled ≡ choices

pub known-from_choices : (chain : Chain) (state : State) (choices : List Choice) → choices_of chain state ≡ Ok choices → Known chain state choices
unfolding choices_of
known-from_choices chain state choices made =
    let from : (enabled : List ℕ) × (enabled_from 0 state chain.commands ≡ Ok enabled)
    × IsMade choices (Ok (choices_among chain enabled)) =
    bind-Ok (enabled_from 0 state chain.commands) (λ enabled. Ok (choices_among chain enabled)) choices made in
    record { enabled = from.0; made = from.1; same = cc }

-- the choices of a state are those that it has
pub choices_are_all : (chain : Chain) (state : State) (choices : List Choice) → choices_of chain state ≡ Ok choices
    → (choice : Choice) → (Contains choices choice → IsChoice chain state choice) × (IsChoice chain state choice → Contains choices choice)
choices_are_all chain state choices made choice =
    let known : Known chain state choices = known-from_choices chain state choices made in (
      λ within. choice-from_in chain state known.enabled known.made choice (subst (In choice) (sym known.same) (in-from_contains choices choice within)),
      λ is. contains-from_in choices choice (subst (In choice) known.same (in-from_choice chain state known.enabled known.made choice is)),
    )

-- and they stand in order
pub choices_in_order : (chain : Chain) (state : State) (choices : List Choice) → choices_of chain state ≡ Ok choices → AllPairs IsEarlier choices
choices_in_order chain state choices made =
    let known : Known chain state choices = known-from_choices chain state choices made in
    subst (AllPairs IsEarlier) known.same
    (pairs-from_ordered IsEarlier (choices_among chain known.enabled)
    (choices_rise chain known.enabled (enabled_rise 0 state chain.commands known.enabled known.made)))
