-- What a monitor says that is shown one pair again and again.
use Rattle.std.proofs.Common.{◌<◌, ◌+◌, arith, true, false}
use Rattle.chain_model.specs.Paths.{horizon_of}
use Rattle.one_trace.proofs.StandingLemmas.{stood_settled, stood_once_more, stood_short}
use Rattle.one_trace.proofs.standing.stand.Goals as goal

pub returns-in-True : goal.returns-in-True
returns-in-True c =
    stood_settled c.args.monitor.now c.loop-turn.monitor (c.args.first, c.args.second) c.loop-turn._turn true c.loop-turn.invariant
    c.in-True.ensures.judged

pub returns-in-False : goal.returns-in-False
returns-in-False c =
    stood_settled c.args.monitor.now c.loop-turn.monitor (c.args.first, c.args.second) c.loop-turn._turn false c.loop-turn.invariant
    c.in-False.ensures.judged

pub loop-turn-preserved : goal.loop-turn-preserved
loop-turn-preserved c =
    stood_once_more c.args.monitor.now c.loop-turn.monitor c.see.new.self (c.args.first, c.args.second) c.loop-turn._turn
    c.loop-turn.invariant c.see.ensures.kind
    (λ pairs seen. c.see.ensures.seen pairs seen c.in-More.is)

pub unreachable-requires : goal.unreachable-requires
unreachable-requires c =
    let short : c.loop-turn._turn < horizon_of c.args.monitor.now.kind + 1 =
    stood_short c.args.monitor.now c.loop-turn.monitor (c.args.first, c.args.second) c.loop-turn._turn c.open_law.ensures.short
    c.loop-turn.invariant c.requires.seen.0 c.requires.seen.1 in
    omega (arith, short, c.requires.horizon, c.loop-turn-test.false)
