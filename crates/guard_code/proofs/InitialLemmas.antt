-- A state of another length is not the initial one.
use Rattle.std.proofs.Common.{◌≡◌, List, [], ◌∷◌, length, refl, Bool, true, false, arith}
use Rattle.std.specs.Prelude.{ℤ, ◌&&◌}
use Rattle.std.specs.Cmp.Lexicographic.{pointwise}
use Rattle.std.specs.Ordering.{int_eq}

and_no : (a b : Bool) → b ≡ false → (a && b) ≡ false
and_no true b is = is
and_no false b is = refl

pub other_length : (state initial : List ℤ) → ¬ (length state ≡ length initial) → pointwise int_eq state initial ≡ false
other_length [] [] other = absurd (other refl)
other_length [] (n ∷ initial) other = refl
other_length (value ∷ state) [] other = refl
other_length (value ∷ state) (n ∷ initial) other =
    and_no (int_eq value n) (pointwise int_eq state initial) (other_length state initial (λ same. other (omega (arith, same))))
