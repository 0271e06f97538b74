-- One weight over its denominator is 1 where it adds up to it.
use Rattle.std.proofs.Common.{sym, ◌∙◌}
use Rattle.successors.proofs.BranchingLemmas.{sure_alone}
use Rattle.successors.proofs.branching.is_sure.Goals as goal

pub returns-in-Some : goal.returns-in-Some
returns-in-Some c = λ adds chain state command read.
    sure_alone chain state command c.args.weights.now c.in-Some.den read c.if-weights-ne1.false c.in-Some.ensures.value (sym c.add_up.ensures ∙ adds)
