-- The bytes say which commands are enabled, or the first guard that faults is the step's fault.
use Rattle.std.proofs.Common.{◌∙◌, List, ℕ, length, sym, ap, subst, arith}
use Rattle.trace_streams.specs.Draws.{draw_at}
use Rattle.successors.specs.Enabled.{AreGuards}
use Rattle.successors.proofs.GuardLemmas.{next_fault, fault_made, written}
use Rattle.successors.proofs.stepper.Stepper.advance_by_bytes.Goals as goal

pub returns-in-Err-clause-step : goal.returns-in-Err-clause-step
returns-in-Err-clause-step c =
    next_fault c.args.job.now.chain (draw_at c.args.draws.now.seed c.args.draws.now.trace) c.args.state.now c.args.draws.now.place c.in-Err.fault c.in-Err.ensures.fault

pub returns-in-Err-clause-stayed : goal.returns-in-Err-clause-stayed
returns-in-Err-clause-stayed c =
    (λ same. absurd (cc), λ none. absurd (fault_made c.args.job.now.chain c.args.state.now c.in-Err.fault c.in-Err.ensures.fault none))

pub make_move-requires-clause-guards : goal.make_move-requires-clause-guards
make_move-requires-clause-guards c =
    subst (λ (bytes : List ℕ). AreGuards c.args.job.now.chain c.args.state.now 0 bytes)
    (sym (c.deref.ensures.value ∙ written c.args.self.now.bytes.len c.fill.new.bytes _
    (omega (arith, c.fill.auto.bytes, c.deref_mut.ensures.len, ap length c.deref_mut.ensures.value, c.args.self.now.bytes.ok.0))))
    c.in-Ok.ensures.enabled
