use Rattle.stop_rules.proofs.SeatLemmas.{all_ready-watching}
use Rattle.stop_rules.proofs.admit.Admit.new.Goals as goal

pub returns-clause-ready : goal.returns-clause-ready
returns-clause-ready g c = rw c.in_ok-seats.ensures (all_ready-watching _ c.args.watch.items c.requires)
