-- The states of a chain: the initial one, and those after assignments within the ranges.
use Rattle.std.proofs.Common.{◌≡◌, ℕ, ◌<◌, zero, suc, List, [], ◌∷◌, Bool, true, false, ◌&&◌, All, length, get_or, set, refl, sym, ap, ◌∙◌, subst, inl, inr, arith, get_or-set_same, get_or-set_other, length-set}
use Rattle.std.specs.Prelude.{◌⊎◌, ℤ, ◌≤ℤ◌, int_le, not, Some, None, Option, fold, map, slice_get, slice_set}
use Rattle.std.specs.Option.{option_map}
use Rattle.std.proofs.lemmas.Bool.{cases_eq, and_parts}
use Rattle.std.proofs.lemmas.Int.{ints}
use Rattle.std.proofs.lemmas.List.{length-map}
use Rattle.std.proofs.lemmas.List.Elements.{All-head, All-tail}
use Rattle.std.proofs.lemmas.Option.{same_Some, slice_get_cases, slice_get_within, slice_get-get_or, get_or_from_slice_get, slice_get-map}
use Rattle.chain_model.specs.declared.chain.Var.{Var}
use Rattle.chain_model.specs.declared.chain.Chain.{Chain}
use Rattle.chain_model.specs.Chain.{IsVariable}
use Rattle.chain_model.specs.States.{State, IsState, IsInRange, initial_of}
use Rattle.chain_model.specs.Step.{is_within, after_assignments}

-- what holds of each element holds of the one of a number
pub All-slice_get : {X : Type 0} (P : X → Type 0) (xs : List X) (n : ℕ) (x : X) → All P xs → slice_get xs n ≡ Some x → P x
All-slice_get P xs n x all at =
    subst P (get_or_from_slice_get xs n x x at) (all n x (slice_get_within xs n x at))

-- the initial values are a state of the chain
pub initial_is_state : (chain : Chain) → IsState chain (initial_of chain)
initial_is_state chain =
    record {
      long = length-map chain.vars (λ (var : Var). var.init);
      in_range = λ number var value known at.
          let variable : IsVariable (length chain.modules) var =
          All-slice_get (IsVariable (length chain.modules)) chain.vars number var chain.well_formed.each_variable known in
          let start : Some value ≡ Some var.init =
          sym at ∙ (slice_get-map (λ (v : Var). v.init) chain.vars number ∙ ap (option_map (λ (v : Var). v.init)) known) in
          subst (IsInRange var) (sym (same_Some value var.init start)) (variable.from, variable.to);
    }

-- an element of a list after a write
slice_get-set : {X : Type 0} (xs : List X) (at n : ℕ) (x y : X) → slice_get (set xs at x) n ≡ Some y
    → ((n ≡ at) × (y ≡ x)) ⊎ (slice_get xs n ≡ Some y)
slice_get-set {X} xs at n x y is =
    let within : n < length (set xs at x) = slice_get_within (set xs at x) n y is in
    let inside : n < length xs = omega (arith, length-set xs at x) in
    let read : get_or (set xs at x) n y ≡ y = get_or_from_slice_get (set xs at x) n y y is in
    elim (cases_eq n at) [
      | inl same ↦
          let here : get_or (set xs at x) n y ≡ x =
          ap (λ (k : ℕ). get_or (set xs at x) k y) same ∙ get_or-set_same xs at x y (omega arith) in
          inl (same, sym read ∙ here)
      | inr other ↦
          let there : get_or (set xs at x) n y ≡ get_or xs n y = get_or-set_other xs at n x y other in
          inr (slice_get-get_or xs n y inside ∙ ap Some (sym there ∙ read))
    ]

-- an order of whole numbers, by its test
int_le-holds : (a b : ℤ) → int_le a b ≡ true → a ≤ℤ b
int_le-holds a b holds = grind (arith, ints)

-- a value that passes the test of a variable's range is within it
pub in_range-from_test : (o : Option Var) (var : Var) (value : ℤ) → o ≡ Some var → is_within o value ≡ true → IsInRange var value
in_range-from_test o var value is passes =
    let test : is_within (Some var) value ≡ true = sym (ap (λ (p : Option Var). is_within p value) is) ∙ passes in
    let both : (int_le var.lo value ≡ true) × (int_le value var.hi ≡ true) = and_parts (int_le var.lo value) (int_le value var.hi) test in
    (int_le-holds var.lo value both.0, int_le-holds value var.hi both.1)

-- an assignment within its variable's range leads to a state of the chain
pub assignment_keeps : (chain : Chain) (state : State) (number : ℕ) (value : ℤ) → IsState chain state
    → is_within (slice_get chain.vars number) value ≡ true → IsState chain (slice_set state number value)
assignment_keeps chain state number value fits within =
    record {
      long = length-set state number value ∙ fits.long;
      in_range = λ n var v known at.
          elim (slice_get-set state number n value v at) [
            | inl here ↦
                subst (IsInRange var) (sym here.1)
                (in_range-from_test (slice_get chain.vars number) var value (ap (slice_get chain.vars) (sym here.0) ∙ known) within)
            | inr other ↦ fits.in_range n var v known other
          ];
    }

-- so do several
pub assignments_keep : (chain : Chain) (assigned : List (ℕ × ℤ)) (state : State) → IsState chain state
    → All (λ one. is_within (slice_get chain.vars one.0) one.1 ≡ true) assigned → IsState chain (after_assignments state assigned)
assignments_keep chain [] state fits each = fits
assignments_keep chain (one ∷ others) state fits each =
    assignments_keep chain others (slice_set state one.0 one.1)
    (assignment_keeps chain state one.0 one.1 fits (All-head (λ (o : ℕ × ℤ). is_within (slice_get chain.vars o.0) o.1 ≡ true) one others each))
    (All-tail (λ (o : ℕ × ℤ). is_within (slice_get chain.vars o.0) o.1 ≡ true) one others each)
