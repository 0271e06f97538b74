-- Both copies are those after the first branch.
use Rattle.successors.proofs.LeadLemmas.{surely}
use Rattle.successors.proofs.telling.lead_surely.Goals as goal

pub returns-in-Ok : goal.returns-in-Ok
returns-in-Ok c = λ all left led.
    surely c.args.chain.now c.args.state.now c.args.first.now c.args.second.now c.assign_both.new.first c.assign_both.new.second c.args.command all left c.args.told
    c.requires.sure c.in-Ok.ensures.first c.in-Ok.ensures.second led
