-- What the pair of a state says.
use Rattle.std.proofs.Common.{sym, subst}
use Rattle.chain_model.specs.States.{State}
use Rattle.one_trace.specs.Underway.{IsUnderway}
use Rattle.one_trace.proofs.UnderwayLemmas.{faults_here}
use Rattle.one_trace.proofs.visits.visit_state.Goals as goal

pub look-requires-clause-here : goal.look-requires-clause-here
look-requires-clause-here c = (c.requires.underway.state, c.requires.underway.here, c.requires.underway.underway.fits)

pub returns-in-Err-clause-comes : goal.returns-in-Err-clause-comes
returns-in-Err-clause-comes c =
    faults_here c.args.job.now c.args.draws.now.trace c.args.step c.args.monitor.now c.look.new.work.state.items c.args.draws.now c.in-Err.fault
    (subst (λ (s : State). IsUnderway c.args.job.now c.args.draws.now.trace c.args.step c.args.monitor.now s c.args.draws.now)
    (sym (c.look.ensures.written c.requires.underway.state c.requires.underway.here)) c.requires.underway.underway)
    c.in-Err.ensures.pair

pub returns-in-Some-clause-comes : goal.returns-in-Some-clause-comes
returns-in-Some-clause-comes c =
    c.in-Some.ensures.settled c.args.job.now c.args.draws.now.trace c.args.step c.look.new.work.state.items c.args.draws.now
    (subst (λ (s : State). IsUnderway c.args.job.now c.args.draws.now.trace c.args.step c.args.monitor.now s c.args.draws.now)
    (sym (c.look.ensures.written c.requires.underway.state c.requires.underway.here)) c.requires.underway.underway)
    (sym c.in-Ok.ensures.pair)

pub advance-requires-clause-visited : goal.advance-requires-clause-visited
advance-requires-clause-visited c =
    c.in-None.ensures.open c.args.job.now c.args.draws.now.trace c.args.step c.look.new.work.state.items c.args.draws.now
    (subst (λ (s : State). IsUnderway c.args.job.now c.args.draws.now.trace c.args.step c.args.monitor.now s c.args.draws.now)
    (sym (c.look.ensures.written c.requires.underway.state c.requires.underway.here)) c.requires.underway.underway)
    (sym c.in-Ok.ensures.pair)
