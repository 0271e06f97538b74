-- What comes of a value, where there is one.
use Rattle.std.proofs.Common.{◌≡◌, Option, refl}
use Rattle.std.specs.Prelude.{None, Some}
use Rattle.chain_model.specs.Sorts.{◌>>=◌}

-- what a bind that gives something was given
pub bind-Some : {A B : Type 0} (o : Option A) (f : A → Option B) (y : B) → (o >>= f) ≡ Some y → (x : A) × (o ≡ Some x) × (f x ≡ Some y)
bind-Some (Some x) f y is = (x, refl, is)
bind-Some None f y is = absurd (let no : ⊥ = cc in no)
