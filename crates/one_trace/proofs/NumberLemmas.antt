-- States by their numbers, and lists that grow at the end.
use Rattle.std.proofs.Common.{◌≡◌, ◌⊎◌, inl, inr, ℕ, zero, suc, ◌<◌, List, [], ◌∷◌, ◌++◌, length, set, refl, sym, ◌∙◌, ap}
use Rattle.std.specs.Prelude.{Option, Some, None, IfSome, slice_get}
use Rattle.std.proofs.lemmas.Option.{none-some, same_Some, slice_get_within}
use Rattle.std.proofs.lemmas.List.{append-nil, append_assoc}
use Rattle.chain_model.specs.States.{State}
use Rattle.one_trace.specs.Numbers.{IsAt, GoesOnFrom}

-- an element keeps its number where further ones follow
pub slice_get-append : {X : Type 0} (xs more : List X) (n : ℕ) (x : X) → slice_get xs n ≡ Some x → slice_get (xs ++ more) n ≡ Some x
slice_get-append [] more n x there = absurd (none-some x there)
slice_get-append (y ∷ xs) more zero x there = there
slice_get-append (y ∷ xs) more (suc n) x there = slice_get-append xs more n x there

-- an element of a list with one more is one of those before, or the last one
pub in_longer : {X : Type 0} (xs : List X) (y : X) (n : ℕ) (x : X) → slice_get (xs ++ (y ∷ [])) n ≡ Some x
    → (slice_get xs n ≡ Some x) ⊎ ((n ≡ length xs) × (y ≡ x))
in_longer [] y zero x there = inr (refl, same_Some y x there)
in_longer [] y (suc n) x there = absurd (none-some x there)
in_longer (z ∷ xs) y zero x there = inl there
in_longer (z ∷ xs) y (suc n) x there = elim (in_longer xs y n x there) [
  | inl early ↦ inl early
  | inr last ↦ inr (ap suc last.0, last.1)
]

-- an element of a list that was written to is the one that was written, or one of those before
pub in_written : {X : Type 0} (xs : List X) (i : ℕ) (y : X) (n : ℕ) (x : X) → slice_get (set xs i y) n ≡ Some x
    → ((n ≡ i) × (y ≡ x)) ⊎ (slice_get xs n ≡ Some x)
in_written [] i y n x there = inr there
in_written (z ∷ xs) zero y zero x there = inl (refl, same_Some y x there)
in_written (z ∷ xs) zero y (suc n) x there = inr there
in_written (z ∷ xs) (suc i) y zero x there = inr there
in_written (z ∷ xs) (suc i) y (suc n) x there = elim (in_written xs i y n x there) [
  | inl here ↦ inl (ap suc here.0, here.1)
  | inr other ↦ inr other
]

-- states go on from the same ones
pub goes_on_equal : (old new : List State) → new ≡ old → GoesOnFrom old new
goes_on_equal old new same = ([], same ∙ sym (append-nil old))

-- states go on from themselves, and from those from which earlier ones go on
pub goes_on_same : (states : List State) → GoesOnFrom states states
goes_on_same states = ([], sym (append-nil states))

pub goes_on_further : (first second third : List State) → GoesOnFrom first second → GoesOnFrom second third → GoesOnFrom first third
goes_on_further first second third one two =
    (one.0 ++ two.0, two.1 ∙ ap (λ (ss : List State). ss ++ two.0) one.1 ∙ append_assoc first one.0 two.0)

-- the state of a number stays where states go on
pub keeps_number : (old new : List State) (number : ℕ) (state : State) → GoesOnFrom old new → slice_get old number ≡ Some state
    → slice_get new number ≡ Some state
keeps_number old new number state goes there =
    ap (λ (ss : List State). slice_get ss number) goes.1 ∙ slice_get-append old goes.0 number state there

pub keeps_start : (old new : List State) (number : Option ℕ) (state : State) → GoesOnFrom old new
    → IfSome number (λ n. slice_get old n ≡ Some state) → IfSome number (λ n. slice_get new n ≡ Some state)
keeps_start old new None state goes start = start
keeps_start old new (Some number) state goes start = keeps_number old new number state goes start

-- a state that is written out, and has this number if any, is that which the number names
pub is_at_written : (states : List State) (number : Option ℕ) (written : State)
    → IfSome number (λ n. slice_get states n ≡ Some written) → IsAt states number written written
is_at_written states None written numbered = refl
is_at_written states (Some number) written numbered = numbered

-- a number at which a trace stands is one of those that are there
pub is_within : (states : List State) (number : Option ℕ) (written state : State) → IsAt states number written state
    → IfSome number (λ n. n < length states)
is_within states None written state at = tt
is_within states (Some number) written state at = slice_get_within states number state at
