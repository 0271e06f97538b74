use Rattle.std.proofs.Common.{◌≡◌, ◌≤◌, ◌+◌, ap, ◌∙◌, refl, arith}
use Rattle.trace_streams.specs.Draws.{draw_at}
use Rattle.trace_report.proofs.ReportLemmas.{told_first}
use Rattle.trace_report.proofs.TurnLemmas.{turns_on, turns_off, turns_to_fault, turns_end}
use Rattle.trace_report.proofs.tracing.trace_report.Goals as goal

pub loop-number-init : goal.loop-number-init
loop-number-init c =
    rw (c.new-draws.ensures, c.in_ok-state.ensures.value, c.new-text.ensures.items)
    (told_first c.args.chain.now (draw_at c.args.seed c.args.index), refl, omega arith)

pub loop-number-preserved : goal.loop-number-preserved
loop-number-preserved c =
    let turn = c.loop-number in
    let seed = ap (λ draws. draws.seed) turn.invariant.1 in
    let index = ap (λ draws. draws.trace) turn.invariant.1 in
    let next = rw (c.in-Some.is, c.as_slice.ensures.value) at c.in_ok-next.ensures.next in
    let lines = rw (c.as_slice.ensures.value) at c.in_ok-next.ensures.text in
    let near : c.append_lines.new.draws.place ≤ turn.draws.place + 65 = c.in_ok-next.ensures.near in (
      turns_on c.args.chain.now c.args.seed c.args.index turn.draws.seed turn.draws.trace turn.number _ _ turn.text.items
          c.append_lines.new.text.items seed index turn.invariant.0 next lines,
      rw (c.in_ok-next.ensures.stream, seed, index) refl,
      omega arith,
    )

pub returns-in-None-clause-text : goal.returns-in-None-clause-text
returns-in-None-clause-text c =
    let turn = c.loop-number in
    let seed = ap (λ draws. draws.seed) turn.invariant.1 in
    let index = ap (λ draws. draws.trace) turn.invariant.1 in
    let faults = rw (c.in-None.is, c.as_slice.ensures.value) at c.in_ok-next.ensures.next in
    let lines = rw (c.as_slice.ensures.value) at c.in_ok-next.ensures.text in
    turns_off c.args.chain.now c.args.seed c.args.index turn.draws.seed turn.draws.trace turn.number c.args.steps
    c.place.result _ turn.text.items c.append_lines.new.text.items c.append_draws.new.text.items seed index
    turn.invariant.0 faults.0 lines (c.place.ensures ∙ faults.1) c.in_ok-append_draws-in-None.ensures
    c.loop-number-test.true

pub returns-in-None-clause-ended : goal.returns-in-None-clause-ended
returns-in-None-clause-ended c =
    let turn = c.loop-number in
    let seed = ap (λ draws. draws.seed) turn.invariant.1 in
    let index = ap (λ draws. draws.trace) turn.invariant.1 in
    let faults = rw (c.in-None.is, c.as_slice.ensures.value) at c.in_ok-next.ensures.next in (
      λ _. turns_to_fault c.args.chain.now c.args.seed c.args.index turn.draws.seed turn.draws.trace turn.number
          c.args.steps _ turn.text.items seed index turn.invariant.0 faults.0 c.loop-number-test.true,
      λ _. refl,
    )

pub returns-clause-text : goal.returns-clause-text
returns-clause-text c =
    let turn = c.loop-number in
    let past : turn.number ≡ c.args.steps = omega arith in
    let line = rw (c.as_slice-2.ensures.value) at c.in_ok-append_state.ensures in
    turns_end c.args.chain.now (draw_at c.args.seed c.args.index) turn.number c.args.steps c.place-2.result _
    turn.text.items c.append_state.new.text.items c.append_draws-2.new.text.items turn.invariant.0 past line
    c.place-2.ensures c.in_ok-append_draws.ensures
