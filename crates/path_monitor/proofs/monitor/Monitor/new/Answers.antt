use Rattle.std.proofs.Common.{refl}
use Rattle.path_monitor.proofs.SettlingLemmas.{undecided_is_open, undecided_at_first}
use Rattle.path_monitor.proofs.monitor.Monitor.new.Goals as goal

pub returns-clause-seen : goal.returns-clause-seen
returns-clause-seen c = record {
  count = refl;
  unsettled = undecided_is_open c.args.path.now.kind _ (undecided_at_first c.args.path.now.kind);
}
