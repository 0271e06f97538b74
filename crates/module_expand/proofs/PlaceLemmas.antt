-- What stands at which place of a list with one item more.
use Rattle.std.proofs.Common.{◌≡◌, ℕ, zero, suc, List, [], ◌∷◌, ◌++◌, length, refl, sym, ap}
use Rattle.std.specs.Prelude.{Some, ◌⊎◌, slice_get}
use mathlib.Core.Logic.{inl, inr}
use Rattle.module_expand.proofs.FirstLemmas.{not_none, some_same}

pub at_front : {X : Type 0} (xs : List X) (x y : X) (k : ℕ) → slice_get xs k ≡ Some y → slice_get (xs ++ (x ∷ [])) k
    ≡ Some y
at_front [] x y k h = absurd (not_none y (sym h))
at_front (z ∷ xs) x y zero h = h
at_front (z ∷ xs) x y (suc k) h = at_front xs x y k h

pub at_end : {X : Type 0} (xs : List X) (x : X) → slice_get (xs ++ (x ∷ [])) (length xs) ≡ Some x
at_end [] x = refl
at_end (z ∷ xs) x = at_end xs x

-- an item stands among those before, or it is the last
pub front_or_end : {X : Type 0} (xs : List X) (x y : X) (k : ℕ) → slice_get (xs ++ (x ∷ [])) k ≡ Some y
    → (slice_get xs k ≡ Some y) ⊎ ((k ≡ length xs) × (x ≡ y))
front_or_end [] x y zero h = inr (refl, some_same x y h)
front_or_end [] x y (suc k) h = absurd (not_none y (sym h))
front_or_end (z ∷ xs) x y zero h = inl h
front_or_end (z ∷ xs) x y (suc k) h = elim (front_or_end xs x y k h) [
  | inl front ↦ inl front
  | inr end ↦ inr
      (ap suc end.0, end.1)
]
