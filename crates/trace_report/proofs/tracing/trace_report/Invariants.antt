use Rattle.std.proofs.Common.{◌≡◌, ◌*◌, ◌≤◌}
use Rattle.trace_streams.specs.Draws.{draw_at}
use Rattle.trace_report.proofs.ReportLemmas.{IsTold}
use Rattle.trace_report.proofs.tracing.trace_report.Given as goal

-- the trace has come to this state, by the draws of its stream
abbrev pub invariant-loop-number : goal.invariant-loop-number
invariant-loop-number l =
    IsTold l.chain (draw_at l.fn.seed l.fn.index) l.number
    (record { state = l.state.items; position = l.draws.place }) l.text.items
    × (l.draws ≡ record { seed = l.fn.seed; trace = l.fn.index; place = l.draws.place })
    × (l.draws.place ≤ 65 * l.number)
