-- The line of a read fault.
use Rattle.std.proofs.Common.{◌≡◌, ℕ, ◌<◌, ◌∷◌, [], List, refl, ◌∙◌, arith}
use Rattle.std.specs.Fmt.{decimal}
use Rattle.std.proofs.lemmas.Fmt.{decimal-digits_of}

-- the number of a read fault in digits
pub four_hundred : decimal 400 ≡ 52 ∷ 48 ∷ 48 ∷ []
four_hundred = decimal-digits_of 400 (omega arith) (omega arith)
