-- A state of another length is not the initial one.
use Rattle.std.proofs.Common.{◌≡◌, List, [], ◌∷◌, length, map, refl, Bool, true, false, arith}
use Rattle.std.specs.Prelude.{ℤ, ◌&&◌}
use Rattle.std.specs.Cmp.Lexicographic.{pointwise}
use Rattle.std.specs.Ordering.{int_eq}
use Rattle.chain_model.specs.declared.chain.Var.{Var}

and_no : (a b : Bool) → b ≡ false → (a && b) ≡ false
and_no true b is = is
and_no false b is = refl

pub other_length : (state : List ℤ) (vars : List Var) → ¬ (length state ≡ length vars) → pointwise int_eq state (map (λ var. var.init) vars) ≡ false
other_length [] [] other = absurd (other refl)
other_length [] (var ∷ vars) other = refl
other_length (value ∷ state) [] other = refl
other_length (value ∷ state) (var ∷ vars) other =
    and_no (int_eq value var.init) (pointwise int_eq state (map (λ v. v.init) vars)) (other_length state vars (λ same. other (omega (arith, same))))
