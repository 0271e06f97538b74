use Rattle.path_monitor.proofs.SettlingLemmas.{open_is_undecided, undecided_is_short, settled_apart}
use Rattle.path_monitor.proofs.laws.open_law.Goals as goal

pub returns-clause-apart : goal.returns-clause-apart
returns-clause-apart c kind pairs holds fails = settled_apart kind pairs holds fails

pub returns-clause-short : goal.returns-clause-short
returns-clause-short c kind pairs unsettled = undecided_is_short kind pairs (open_is_undecided kind pairs unsettled)
