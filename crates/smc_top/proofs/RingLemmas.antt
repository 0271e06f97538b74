-- One twentieth is in lowest terms.
use Rattle.std.proofs.Common.{◌≡◌, pos, Ok, refl}
use Rattle.smc_num.specs.Gcd.{greatest, gcd_of}
use Rattle.smc_num.specs.Fraction.{fraction_of, lowest}
use Rattle.smc_top.specs.RingCheck.{twentieth}

pub twentieth_found : fraction_of (pos 1) (pos 20) ≡ Ok twentieth
unfolding fraction_of lowest gcd_of greatest
twentieth_found = refl
