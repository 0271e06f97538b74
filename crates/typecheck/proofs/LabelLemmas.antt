-- Whether a look-up found something.
use Rattle.std.proofs.Common.{◌≡◌, Option, Bor, is_some, option_copied, refl}
use Rattle.std.specs.Prelude.{None, Some}
use Rattle.chain_model.specs.declared.expressions.Typed.{Typed}

-- what is copied is there where what it is copied of is
pub is_some-copied : (found : Option (Bor Typed)) → is_some (option_copied found) ≡ is_some found
is_some-copied None = refl
is_some-copied (Some x) = refl
