use Rattle.std.proofs.Common.{◌≡◌, ◌∙◌, sym, ap₂, arith, w64, to_z, pos}
use Rattle.std.proofs.lemmas.Int.{to_z_pos}
use Rattle.smc_num.specs.Fraction.{fraction_of}
use Rattle.wald_test.proofs.ProbabilityLemmas.{probability_exists}
use Rattle.wald_test.proofs.wald.probability.Goals as goal

-- a probability within the limits is a fraction
pub unreachable-requires : goal.unreachable-requires
unreachable-requires c =
    let number : to_z w64 c.args.number ≡ pos c.args.number = to_z_pos w64 c.args.number (omega (arith, c.requires)) in
    let parts : to_z w64 c.args.parts ≡ pos c.args.parts = to_z_pos w64 c.args.parts (omega (arith, c.requires)) in
    probability_exists c.args.number c.args.parts c.in-Err.field-0 c.requires.most c.requires.some c.requires.small
    (sym (ap₂ fraction_of number parts) ∙ sym c.new.ensures.value ∙ c.in-Err.is)
