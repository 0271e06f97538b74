-- The copies are those after the one branch and the other.
use Rattle.successors.proofs.LeadLemmas.{by_draw}
use Rattle.successors.proofs.telling.lead_by_draw.Goals as goal

pub returns-in-Ok : goal.returns-in-Ok
returns-in-Ok c = λ all left led.
    by_draw c.args.chain.now c.args.state.now c.args.first.now c.args.second.now c.assign_both.new.first c.assign_both.new.second c.args.command c.args.threshold
    c.args.branches.0 c.args.branches.1 all left c.requires.draw c.in-Ok.ensures.first c.in-Ok.ensures.second led
