-- One branch is certain, and several have thresholds.
use Rattle.successors.proofs.FixedLemmas.{certain, drawn}
use Rattle.successors.proofs.fixed.fixed.Goals as goal

pub returns-then-weights-eq1 : goal.returns-then-weights-eq1
returns-then-weights-eq1 c =
    certain c.args.chain.now c.args.command c.args.nodes c.args.weights.now c.args.den c.requires.has c.requires.fixed c.requires.common c.requires.few c.requires.whole c.if-weights-eq1.true

pub returns : goal.returns
returns c =
    c.by_thresholds.ensures c.args.chain.now c.args.command
    (drawn c.args.chain.now c.args.command c.args.nodes c.args.weights.now c.args.den c.in_ok-thresholds.field-0 c.requires.has c.requires.fixed c.requires.common c.requires.some c.requires.few c.requires.whole
    c.if-weights-eq1.false c.in_ok-thresholds.ensures)
