-- The thresholds so far are enough.
use Rattle.successors.proofs.FixedLemmas.{marked_whole, marked_all}
use Rattle.successors.proofs.fixed.thresholds.Goals as goal

pub returns-then-through-den : goal.returns-then-through-den
returns-then-through-den c =
    marked_whole c.branch_interval_law.ensures.interval c.args.weights.now c.args.den c.loop-weight.thresholds c.loop-weight.through c.loop-weight.weight-index c.numerator-through.result c.weight-item.result
    c.loop-weight-test.true c.weight-item.is c.numerator-through.ensures.value c.loop-weight.invariant c.if-through-den.true c.requires.some

pub returns : goal.returns
returns c = λ draw word.
    marked_all c.branch_interval_law.ensures.interval c.args.weights.now c.args.den c.loop-weight.thresholds c.loop-weight.through c.loop-weight.weight-index
    c.loop-weight-test.false c.loop-weight.invariant c.requires.some draw
