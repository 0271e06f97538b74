-- The memory is that of the job.
use Rattle.std.proofs.Common.{◌≡◌, length, sym, ap, ◌∙◌, subst}
use Rattle.std.specs.Prelude.{Some, IfSome, slice_get}
use Rattle.chain_model.specs.States.{State, IsState}
use Rattle.one_trace.proofs.work.TraceWork.new.Goals as goal

pub returns : goal.returns
returns c = record {
  code = c.in_ok-code.ensures.code;
  stepper = c.in_ok-code.ensures.stepper;
  known = c.in_ok-known.ensures.known c.args.job.now
      (subst (IsState c.args.job.now.chain) (sym c.deref.ensures.value) c.in_ok-initial.ensures.state);
  kept = c.in_ok-known.ensures.kept c.args.job.now c.in_ok-known.known.table.states;
  initial = c.in_ok-initial.ensures.first;
  starts = c.in_ok-initial.ensures.state;
  start = subst (λ (s : State). IfSome c.in_ok-known.start (λ number. slice_get c.in_ok-known.known.table.states number ≡ Some s))
      c.deref.ensures.value c.in_ok-known.ensures.start;
  room = ap length (c.in_ok-initial.ensures.second ∙ sym c.in_ok-initial.ensures.first);
  first = ap length (c.in_ok-first.ensures.first ∙ sym c.in_ok-initial.ensures.first);
  second = ap length (c.in_ok-first.ensures.second ∙ sym c.in_ok-initial.ensures.first);
}
