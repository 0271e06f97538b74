-- 0 over 1 is a fraction.
use Rattle.std.proofs.Common.{Result, refl, sym, subst}
use Rattle.std.specs.Prelude.{IsOk}
use Rattle.smc_num.specs.declared.fault.NumFault.{NumFault}
use Rattle.smc_num.specs.Fraction.{Fraction, fraction_of, lowest}
use Rattle.smc_num.specs.Gcd.{gcd_of, greatest}
use Rattle.successors.proofs.plan.zero.Goals as goal

pub unwrap-requires : goal.unwrap-requires
unfolding fraction_of lowest gcd_of greatest
unwrap-requires c = subst (λ (r : Result Fraction NumFault). IsOk r) (sym c.new.ensures.value) refl
