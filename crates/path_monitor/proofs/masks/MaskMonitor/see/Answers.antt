-- what is said of a lane's pair, where the lane is left
use Rattle.path_monitor.specs.Verdicts.{verdict_of}
use Rattle.path_monitor.specs.Lanes.{says_true, says_false}
use Rattle.path_monitor.proofs.BitLemmas.{and_bit, left_bit}
use Rattle.path_monitor.proofs.masks.MaskMonitor.see.Goals as goal

pub returns-clause-lanes : goal.returns-clause-lanes
returns-clause-lanes c l low p q t a b left =
    let said = c.verdicts-holds.ensures l low p q a b in
    let step = verdict_of c.args.self.now.kind c.args.self.now.seen p q in (
      and_bit l c.verdicts-holds.result.0 c.args.self.now.left (says_true step) t said.0 left,
      and_bit l c.verdicts-holds.result.1 c.args.self.now.left (says_false step) t said.1 left,
      left_bit l c.verdicts-holds.result.0 c.verdicts-holds.result.1 c.args.self.now.left step t low said.0 said.1 left,
    )
