-- The choices are those by the bits of the lane: none, too many, or one is taken.
use Rattle.std.proofs.Common.{refl, arith}
use Rattle.trace_streams.specs.Draws.{draw_at}
use Rattle.successors.specs.Enabled.{is_enabled}
use Rattle.successors.proofs.MoveLemmas.{known, count_is, next_many, next_stays, none_made, some_made}
use Rattle.successors.proofs.moving.move_by_bytes.Goals as goal

pub returns-then-count-clause-step : goal.returns-then-count-clause-step
returns-then-count-clause-step c =
    let k = known c.args.chain.now c.args.state.now c.args.plan.now c.args.lane c.args.enabled.now c.requires.plan c.requires.guards in
    let counted = count_is c.args.plan.now.partition.singles c.as_slice.result.now c.args.plan.now.partition.actions c.as_slice-2.result.now (is_enabled c.args.lane c.args.enabled.now) c.first_choice-count.result.0 _
    c.as_slice.ensures c.as_slice-2.ensures c.first_choice-count.ensures.count k.size in
    next_many c.args.chain.now (draw_at c.args.draws.now.seed c.args.draws.now.trace) c.args.state.now c.args.draws.now.place k.choices k.made (omega (arith, counted, c.if-count.true))

pub returns-then-count-clause-stayed : goal.returns-then-count-clause-stayed
returns-then-count-clause-stayed c =
    let k = known c.args.chain.now c.args.state.now c.args.plan.now c.args.lane c.args.enabled.now c.requires.plan c.requires.guards in
    let counted = count_is c.args.plan.now.partition.singles c.as_slice.result.now c.args.plan.now.partition.actions c.as_slice-2.result.now (is_enabled c.args.lane c.args.enabled.now) c.first_choice-count.result.0 _
    c.as_slice.ensures c.as_slice-2.ensures c.first_choice-count.ensures.count k.size in
    (λ same. absurd (cc), λ none. absurd (some_made c.args.chain.now c.args.state.now k.choices k.made (omega (arith, counted, c.if-count.true)) none))

pub returns-then-count-eq0-clause-step : goal.returns-then-count-eq0-clause-step
returns-then-count-eq0-clause-step c =
    let k = known c.args.chain.now c.args.state.now c.args.plan.now c.args.lane c.args.enabled.now c.requires.plan c.requires.guards in
    let counted = count_is c.args.plan.now.partition.singles c.as_slice.result.now c.args.plan.now.partition.actions c.as_slice-2.result.now (is_enabled c.args.lane c.args.enabled.now) c.first_choice-count.result.0 _
    c.as_slice.ensures c.as_slice-2.ensures c.first_choice-count.ensures.count k.size in
    next_stays c.args.chain.now (draw_at c.args.draws.now.seed c.args.draws.now.trace) c.args.state.now c.args.draws.now.place k.choices k.made (omega (arith, counted, c.if-count-eq0.true))

pub returns-then-count-eq0-clause-stayed : goal.returns-then-count-eq0-clause-stayed
returns-then-count-eq0-clause-stayed c =
    let k = known c.args.chain.now c.args.state.now c.args.plan.now c.args.lane c.args.enabled.now c.requires.plan c.requires.guards in
    let counted = count_is c.args.plan.now.partition.singles c.as_slice.result.now c.args.plan.now.partition.actions c.as_slice-2.result.now (is_enabled c.args.lane c.args.enabled.now) c.first_choice-count.result.0 _
    c.as_slice.ensures c.as_slice-2.ensures c.first_choice-count.ensures.count k.size in
    (λ same. none_made c.args.chain.now c.args.state.now k.choices k.made (omega (arith, counted, c.if-count-eq0.true)), λ none. refl)

pub returns-in-Ok-clause-stayed : goal.returns-in-Ok-clause-stayed
returns-in-Ok-clause-stayed c =
    let k = known c.args.chain.now c.args.state.now c.args.plan.now c.args.lane c.args.enabled.now c.requires.plan c.requires.guards in
    let counted = count_is c.args.plan.now.partition.singles c.as_slice.result.now c.args.plan.now.partition.actions c.as_slice-2.result.now (is_enabled c.args.lane c.args.enabled.now) c.first_choice-count.result.0 _
    c.as_slice.ensures c.as_slice-2.ensures c.first_choice-count.ensures.count k.size in
    (λ same. absurd (cc), λ none. absurd (some_made c.args.chain.now c.args.state.now k.choices k.made (omega (arith, counted, c.if-count-eq0.false)) none))

pub returns-in-Err-clause-stayed : goal.returns-in-Err-clause-stayed
returns-in-Err-clause-stayed c =
    let k = known c.args.chain.now c.args.state.now c.args.plan.now c.args.lane c.args.enabled.now c.requires.plan c.requires.guards in
    let counted = count_is c.args.plan.now.partition.singles c.as_slice.result.now c.args.plan.now.partition.actions c.as_slice-2.result.now (is_enabled c.args.lane c.args.enabled.now) c.first_choice-count.result.0 _
    c.as_slice.ensures c.as_slice-2.ensures c.first_choice-count.ensures.count k.size in
    (λ same. absurd (cc), λ none. absurd (some_made c.args.chain.now c.args.state.now k.choices k.made (omega (arith, counted, c.if-count-eq0.false)) none))
