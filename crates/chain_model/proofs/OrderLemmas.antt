-- Lists in order: what holds of each two neighbours holds of each two items.
use Rattle.std.proofs.Common.{◌≡◌, ℕ, zero, suc, ◌+◌, ◌-◌, ◌<◌, List, length, get_or, subst, sym}
use Rattle.std.proofs.Common.{arith}
use Rattle.std.specs.List.{AllPairs}

-- a relation that is handed on holds of an item and the one that stands n + 1 places after it
pub reach : {A : Type 0} (R : A → A → Type 0) → ((x y z : A) → R x y → R y z → R x z) → (xs : List A)
    → ((k : ℕ) (d : A) → k + 1 < length xs → R (get_or xs k d) (get_or xs (k + 1) d))
    → (n i : ℕ) (d : A) → i + (n + 1) < length xs → R (get_or xs i d) (get_or xs (i + (n + 1)) d)
reach R handed xs next zero i d within = next i d within
reach R handed xs next (suc n) i d within =
    let e : i + (n + 1) + 1 ≡ i + (suc n + 1) = omega arith in
    let w : i + (n + 1) + 1 < length xs = omega (arith, within) in
    handed (get_or xs i d) (get_or xs (i + (n + 1)) d) (get_or xs (i + (suc n + 1)) d)
    (reach R handed xs next n i d (omega (arith, within)))
    (subst (λ k. R (get_or xs (i + (n + 1)) d) (get_or xs k d)) e (next (i + (n + 1)) d w))

-- so it holds of each item and each later one
pub pairs-from_neighbours : {A : Type 0} (R : A → A → Type 0) → ((x y z : A) → R x y → R y z → R x z) → (xs : List A)
    → ((k : ℕ) (d : A) → k + 1 < length xs → R (get_or xs k d) (get_or xs (k + 1) d)) → AllPairs R xs
pairs-from_neighbours R handed xs next i j d before within =
    let n : ℕ = j - (i + 1) in
    let e : i + (n + 1) ≡ j = omega (arith, before) in
    subst (λ k. R (get_or xs i d) (get_or xs k d)) e (reach R handed xs next n i d (omega (arith, before, within)))
