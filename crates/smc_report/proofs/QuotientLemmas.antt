-- Quotients of whole numbers in lowest terms.
use Rattle.std.proofs.Common.{◌≡◌, ℕ, zero, suc, Bool, true, false, Ok, Err, pos}
use Rattle.std.specs.Prelude.{if◌then◌else◌}
use Rattle.smc_num.specs.declared.fault.NumFault.TheVariants.{OutOfLimit}
use Rattle.smc_num.specs.Fraction.{Fraction, lowest, fraction_of}
use Rattle.smc_report.specs.Texts.{quotient}

-- a fraction where a test holds is the one that it was tested for
where_it_is : (test : Bool) (f g : Fraction) → (if test then Ok f else Err OutOfLimit) ≡ Ok g → f ≡ g
where_it_is true f g e = cc
where_it_is false f g e = cc

-- the fraction of two whole numbers is their quotient
pub quotient_is : (n d : ℕ) (f : Fraction) → fraction_of (pos n) (pos d) ≡ Ok f → quotient n d ≡ f
unfolding fraction_of lowest quotient
quotient_is n zero f e = cc
quotient_is n (suc d) f e = where_it_is _ _ _ e
