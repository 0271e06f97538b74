-- What is known of a state says where a trace goes on.
use Rattle.std.proofs.Common.{◌++◌, ◌∷◌, [], refl, sym, ap, ◌∙◌}
use Rattle.chain_model.specs.Paths.{horizon_of}
use Rattle.one_trace.proofs.StayingLemmas.{stays_for_ever}
use Rattle.one_trace.proofs.NumberLemmas.{is_within}
use Rattle.one_trace.proofs.VisitLemmas.{underway_drawn, underway_one}
use Rattle.one_trace.proofs.visits.visit.Goals as goal

pub row_at-requires : goal.row_at-requires
row_at-requires c = is_within c.args.work.now.known.table.states c.args.number c.args.work.now.state.items c.requires.underway.state c.requires.underway.here

pub returns-in-Some-clause-comes : goal.returns-in-Some-clause-comes
returns-in-Some-clause-comes c =
    c.in-Some.ensures.settled c.args.job.now c.args.draws.now.trace c.args.step c.requires.underway.state c.args.draws.now c.requires.underway.underway
    (c.in-Drawn.ensures c.args.job.now c.args.work.now.state.items c.requires.underway.state c.requires.work.known c.requires.underway.here).0

pub returns-in-None-clause-comes : goal.returns-in-None-clause-comes
returns-in-None-clause-comes c =
    let row = c.in-Drawn.ensures c.args.job.now c.args.work.now.state.items c.requires.underway.state c.requires.work.known c.requires.underway.here in
    underway_drawn c.args.job.now c.args.draws.now.trace c.args.step _ c.args.work.now.known.table.states c.args.work.now.state.items
    c.requires.underway.state c.args.draws.now c.drawn_number.new.draws (c.in-Drawn.first, c.in-Drawn.second) c.in-Drawn.threshold c.in-Drawn.low c.in-Drawn.high
    c.drawn_number.result
    (c.in-None.ensures.open c.args.job.now c.args.draws.now.trace c.args.step c.requires.underway.state c.args.draws.now c.requires.underway.underway row.0)
    refl row.1 c.drawn_number.ensures.number c.drawn_number.ensures.moves c.draws_are_words.ensures c.steps_draw_few.ensures.draws c.traces_keep_ranges.ensures

pub returns-in-Some-judge-clause-comes : goal.returns-in-Some-judge-clause-comes
returns-in-Some-judge-clause-comes c =
    c.in-Some-judge.ensures.settled c.args.job.now c.args.draws.now.trace c.args.step c.requires.underway.state c.args.draws.now c.requires.underway.underway
    (c.in-One.ensures c.args.job.now c.args.work.now.state.items c.requires.underway.state c.requires.work.known c.requires.underway.here).0

pub returns-in-None-judge-clause-comes : goal.returns-in-None-judge-clause-comes
returns-in-None-judge-clause-comes c =
    let row = c.in-One.ensures c.args.job.now c.args.work.now.state.items c.requires.underway.state c.requires.work.known c.requires.underway.here in
    underway_one c.args.job.now c.args.draws.now.trace c.args.step _ c.args.work.now.known.table.states c.args.work.now.state.items
    c.requires.underway.state c.args.draws.now (c.in-One.first, c.in-One.second) c.in-One.next
    (c.in-None-judge.ensures.open c.args.job.now c.args.draws.now.trace c.args.step c.requires.underway.state c.args.draws.now c.requires.underway.underway row.0)
    refl row.1 c.steps_draw_few.ensures.draws c.traces_keep_ranges.ensures

pub returns-in-Some-judge-2-clause-comes : goal.returns-in-Some-judge-2-clause-comes
returns-in-Some-judge-2-clause-comes c =
    c.in-Some-judge-2.ensures.settled c.args.job.now c.args.draws.now.trace c.args.step c.requires.underway.state c.args.draws.now c.requires.underway.underway
    (c.in-Stays.ensures c.args.job.now c.args.work.now.state.items c.requires.underway.state c.requires.work.known c.requires.underway.here).0

pub returns-in-None-judge-2-clause-comes : goal.returns-in-None-judge-2-clause-comes
returns-in-None-judge-2-clause-comes c =
    let row = c.in-Stays.ensures c.args.job.now c.args.work.now.state.items c.requires.underway.state c.requires.work.known c.requires.underway.here in
    stays_for_ever c.args.job.now c.args.draws.now.trace c.args.step _ c.requires.underway.state c.args.draws.now (c.in-Stays.first, c.in-Stays.second) c.stand.result
    (c.in-None-judge-2.ensures.open c.args.job.now c.args.draws.now.trace c.args.step c.requires.underway.state c.args.draws.now c.requires.underway.underway row.0)
    row.1 c.stays_without_choice.ensures c.stand.ensures

pub stand-requires-clause-horizon : goal.stand-requires-clause-horizon
stand-requires-clause-horizon c =
    let row = c.in-Stays.ensures c.args.job.now c.args.work.now.state.items c.requires.underway.state c.requires.work.known c.requires.underway.here in
    let visited = c.in-None-judge-2.ensures.open c.args.job.now c.args.draws.now.trace c.args.step c.requires.underway.state c.args.draws.now c.requires.underway.underway row.0 in
    ap horizon_of visited.kind ∙ sym c.horizon.ensures

pub stand-requires-clause-seen : goal.stand-requires-clause-seen
stand-requires-clause-seen c =
    let row = c.in-Stays.ensures c.args.job.now c.args.work.now.state.items c.requires.underway.state c.requires.work.known c.requires.underway.here in
    let visited = c.in-None-judge-2.ensures.open c.args.job.now c.args.draws.now.trace c.args.step c.requires.underway.state c.args.draws.now c.requires.underway.underway row.0 in
    (visited.pairs ++ ((c.in-Stays.first, c.in-Stays.second) ∷ []), visited.seen)
