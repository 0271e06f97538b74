-- One hundredth is in lowest terms.
use Rattle.std.proofs.Common.{◌≡◌, pos, Ok, refl}
use Rattle.smc_num.specs.Gcd.{greatest, gcd_of}
use Rattle.smc_num.specs.Fraction.{fraction_of, lowest}

pub hundredth : fraction_of (pos 1) (pos 100) ≡ Ok (record { num = pos 1; den = 100 })
unfolding fraction_of lowest gcd_of greatest
hundredth = refl
