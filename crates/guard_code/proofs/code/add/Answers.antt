-- One expression more.
use Rattle.guard_code.proofs.CompileLemmas.{adds_one}
use Rattle.guard_code.proofs.code.add.Goals as goal

pub returns : goal.returns
returns c = adds_one c.args.nodes.now _ c.in_ok-node.node c.args.expr.now c.in_ok-push.ensures.ok c.in_ok-node.ensures
