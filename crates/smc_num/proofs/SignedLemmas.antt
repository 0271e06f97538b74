-- Numbers within the limits fit their types, so what the code passes on is what it had.
use Rattle.std.proofs.Common.{◌≡◌, ◌<◌, ℤ, unsigned_abs, FitsSigned, to_z, of_z, w64, to_z-of_z, arith}
use Rattle.std.proofs.lemmas.Int.{fits_signed_from_abs}
use Rattle.smc_num.specs.Fraction.{limit}

pub fits : (n : ℤ) → unsigned_abs n < limit → FitsSigned w64 n
fits n small = fits_signed_from_abs w64 n (omega arith)

-- a number within the limits is passed on as it is
pub passed : (n : ℤ) → unsigned_abs n < limit → to_z w64 (of_z w64 n) ≡ n
passed n small = to_z-of_z {w = w64} (fits n small)
