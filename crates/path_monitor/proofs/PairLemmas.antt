-- Pairs of lists that are put together.
use Rattle.std.proofs.Common.{◌≡◌, ℕ, zero, suc, ◌+◌, ◌<◌, ◌≤◌, List, [], ◌∷◌, ◌++◌, length, replicate, refl, arith}
use Rattle.std.specs.Prelude.{Some, slice_get}

-- an item of the first list
pub in_first : {A : Type 0} (xs ys : List A) (i : ℕ) → i < length xs → slice_get (xs ++ ys) i ≡ slice_get xs i
in_first [] ys i within = absurd (omega (arith, within))
in_first (x ∷ xs) ys zero within = refl
in_first (x ∷ xs) ys (suc i) within = in_first xs ys i (omega (arith, within))

-- an item of the second list, where it has one item many times
pub in_replicate : {A : Type 0} (xs : List A) (x : A) (n i : ℕ) → length xs ≤ i → i < length xs + n → slice_get (xs ++ replicate n x) i ≡ Some x
in_replicate [] x zero i from to = absurd (omega (arith, to))
in_replicate [] x (suc n) zero from to = refl
in_replicate [] x (suc n) (suc i) from to = in_replicate [] x n i (omega arith) (omega (arith, to))
in_replicate (y ∷ xs) x n zero from to = absurd (omega (arith, from))
in_replicate (y ∷ xs) x n (suc i) from to = in_replicate xs x n i (omega (arith, from)) (omega (arith, to))

-- the item right after the first list
pub right_after : {A : Type 0} (xs ys : List A) (x : A) → slice_get (xs ++ (x ∷ ys)) (length xs) ≡ Some x
right_after [] ys x = refl
right_after (y ∷ xs) ys x = right_after xs ys x
