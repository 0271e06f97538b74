-- A work stays one of its job.
use Rattle.std.proofs.Common.{◌≡◌, ℕ, List, ◌++◌, length, take, drop, sym, ◌∙◌, ap, subst}
use Rattle.std.specs.Prelude.{ℤ, Option, Some, IfSome, slice_get}
use Rattle.std.proofs.Math.Seq.{take-append_seam}
use Rattle.guard_code.specs.Codes.{IsCode}
use Rattle.successors.specs.Steppers.{IsStepperOf}
use Rattle.chain_model.specs.declared.job.Job.{Job}
use Rattle.chain_model.specs.States.{State, IsState}
use Rattle.one_trace.specs.declared.work.TraceWork.{TraceWork}
use Rattle.one_trace.specs.Numbers.{GoesOnFrom}
use Rattle.one_trace.specs.Known.{IsKnown}
use Rattle.one_trace.specs.Kept.{AreKept}
use Rattle.one_trace.specs.declared.kept.KeptChoices.{KeptChoices}
use Rattle.one_trace.specs.Work.{IsMadeFor}
use Rattle.one_trace.proofs.NumberLemmas.{keeps_start}
use Rattle.one_trace.proofs.KeptLemmas.{kept_further}

-- values that were written over as many
pub written_over : {X : Type 0} (many : ℕ) (new old : List X) → length old ≡ many → length new ≡ length old
    → take many (new ++ drop (length new) old) ≡ new
written_over many new old is long =
    ap (λ (n : ℕ). take n (new ++ drop (length new) old)) (sym is ∙ sym long) ∙ take-append_seam new (drop (length new) old)

-- steps were made, and states and commands may have come
pub made_further : (job : Job) (before now : TraceWork) → now.code ≡ before.code → AreKept job now.known.table.states now.kept
    → IsStepperOf job now.stepper → IsKnown job now.known
    → GoesOnFrom before.known.table.states now.known.table.states → now.initial.items ≡ before.initial.items → now.start ≡ before.start
    → length now.state.items ≡ length before.state.items → length now.first.items ≡ length before.first.items
    → length now.second.items ≡ length before.second.items → IsMadeFor job before → IsMadeFor job now
made_further job before now code kept stepper known goes initial start state first second made = record {
  code = subst (IsCode job) (sym code) made.code;
  stepper = stepper;
  known = known;
  kept = kept;
  initial = initial ∙ made.initial;
  starts = subst (IsState job.chain) (sym initial) made.starts;
  start = subst (λ (o : Option ℕ). IfSome o (λ n. slice_get now.known.table.states n ≡ Some now.initial.items)) (sym start)
      (subst (λ (s : State). IfSome before.start (λ n. slice_get now.known.table.states n ≡ Some s)) (sym initial)
      (keeps_start before.known.table.states now.known.table.states before.start before.initial.items goes made.start));
  room = state ∙ made.room ∙ sym (ap length initial);
  first = first ∙ made.first ∙ sym (ap length initial);
  second = second ∙ made.second ∙ sym (ap length initial);
}

-- steps were made, and states may have come
pub made_again : (job : Job) (before now : TraceWork) → now.code ≡ before.code → now.kept ≡ before.kept
    → IsStepperOf job now.stepper → IsKnown job now.known
    → GoesOnFrom before.known.table.states now.known.table.states → now.initial.items ≡ before.initial.items → now.start ≡ before.start
    → length now.state.items ≡ length before.state.items → length now.first.items ≡ length before.first.items
    → length now.second.items ≡ length before.second.items → IsMadeFor job before → IsMadeFor job now
made_again job before now code kept stepper known goes initial start state first second made =
    made_further job before now code
    (subst (λ (t : KeptChoices). AreKept job now.known.table.states t) (sym kept)
    (kept_further job before.known.table.states now.known.table.states before.kept goes made.kept))
    stepper known goes initial start state first second made

-- and they are as many still
pub length-written : (many : ℕ) (new old : List ℤ) → length old ≡ many → length new ≡ length old
    → length (take many (new ++ drop (length new) old)) ≡ length old
length-written many new old is long = ap length (written_over many new old is long) ∙ long
