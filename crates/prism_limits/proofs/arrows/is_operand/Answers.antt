use Rattle.prism_limits.proofs.ArrowWalkLemmas.{operand_told}
use Rattle.prism_limits.proofs.arrows.is_operand.Goals as goal

pub returns-in-Ok : goal.returns-in-Ok
returns-in-Ok c = operand_told c.args.rest.now c.in-Ok.ensures
