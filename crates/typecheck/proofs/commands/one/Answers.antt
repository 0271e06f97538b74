use Rattle.std.proofs.Common.{◌≡◌, Result, refl, sym, ap, ◌∙◌, subst}
use Rattle.std.specs.Prelude.{pos, Ok, IsOk}
use Rattle.std.specs.Result.{result_unwrap_or}
use Rattle.smc_num.specs.declared.fault.NumFault.{NumFault}
use Rattle.smc_num.specs.Fraction.{Fraction, fraction_of, lowest}
use Rattle.smc_num.specs.Gcd.{gcd_of, greatest}
use Rattle.typecheck.proofs.commands.one.Goals as goal

pub unwrap-requires : goal.unwrap-requires
unfolding fraction_of lowest gcd_of greatest
unwrap-requires c = subst (λ (r : Result Fraction NumFault). IsOk r) (sym c.new.ensures.value) refl

pub returns : goal.returns
unfolding fraction_of lowest gcd_of greatest
returns c =
    let number : Fraction = record { num = pos 1; den = 1 } in
    let is : Ok number ≡ Ok c.unwrap.result = sym c.new.ensures.value ∙ c.unwrap.ensures in
    sym (ap (λ (r : Result Fraction NumFault). result_unwrap_or r number) is)
