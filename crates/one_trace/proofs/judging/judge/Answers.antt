-- A pair that settles the formula settles the trace.
use Rattle.std.proofs.Common.{true, false, sym}
use Rattle.one_trace.proofs.UnderwayLemmas.{has_value}
use Rattle.one_trace.proofs.judging.judge.Goals as goal

pub returns-in-True-clause-settled : goal.returns-in-True-clause-settled
returns-in-True-clause-settled c = λ job trace step state draws underway here.
    has_value job trace step c.args.monitor.now state draws (c.args.first, c.args.second) true underway (sym here) c.in-True.ensures.judged

pub returns-in-False-clause-settled : goal.returns-in-False-clause-settled
returns-in-False-clause-settled c = λ job trace step state draws underway here.
    has_value job trace step c.args.monitor.now state draws (c.args.first, c.args.second) false underway (sym here) c.in-False.ensures.judged
