use Rattle.path_monitor.proofs.SeenLemmas.{judges_next, has_seen_next}
use Rattle.path_monitor.proofs.monitor.Monitor.see.Goals as goal

pub returns-clause-judged : goal.returns-clause-judged
returns-clause-judged c pairs seen = judges_next c.args.self.now pairs c.args.first c.args.second c.verdict-step.result seen c.verdict-step.ensures

pub returns-clause-seen : goal.returns-clause-seen
returns-clause-seen c pairs seen more = has_seen_next c.args.self.now pairs c.args.first c.args.second c.verdict-step.result c.next_number-self.result seen c.verdict-step.ensures c.next_number-self.ensures more
