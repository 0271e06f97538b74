-- Where a step leads.
use Rattle.std.proofs.Common.{◌≡◌, refl, sym, ap, subst}
use Rattle.std.specs.Prelude.{Ok, Some, IfSome, slice_get}
use Rattle.chain_model.specs.States.{State, IsState}
use Rattle.one_trace.proofs.UnderwayLemmas.{underway_next, faults_next}
use Rattle.one_trace.proofs.StayingLemmas.{stays_for_ever}
use Rattle.one_trace.proofs.NumberLemmas.{is_at_written}
use Rattle.one_trace.proofs.WorkLemmas.{made_again}
use Rattle.one_trace.proofs.visits.advance.Goals as goal

pub returns-in-Ok-Taken-clause-comes : goal.returns-in-Ok-Taken-clause-comes
returns-in-Ok-Taken-clause-comes c =
    let next : State = c.make_step.new.work.state.items in
    record {
      state = next;
      here = is_at_written c.number_of.new.self.table.states c.number_of.result next
          (subst (λ (s : State). IfSome c.number_of.result (λ n. slice_get c.number_of.new.self.table.states n ≡ Some s)) c.deref.ensures.value
          c.number_of.ensures.number);
      underway = underway_next c.args.job.now c.args.draws.now.trace c.args.step c.args.monitor.now c.args.work.now.state.items next
          c.args.draws.now c.make_step.new.draws c.args.pair c.requires.visited
          refl c.in-Ok-Taken.ensures.step c.make_step.ensures.stream
          (c.steps_draw_few.ensures.draws c.args.job.now.chain _ _)
          (c.traces_keep_ranges.ensures c.args.job.now c.args.draws.now.trace);
    }

pub returns-in-Ok-Taken-clause-work : goal.returns-in-Ok-Taken-clause-work
returns-in-Ok-Taken-clause-work c =
    made_again c.args.job.now c.make_step.new.work _ refl refl c.make_step.ensures.work.stepper
    (c.number_of.ensures.known c.args.job.now c.make_step.ensures.work.known
    (subst (IsState c.args.job.now.chain) (sym c.deref.ensures.value) c.make_step.ensures.keeps))
    c.number_of.ensures.states refl refl refl refl refl c.make_step.ensures.work

pub returns-in-Ok-Stayed-clause-comes : goal.returns-in-Ok-Stayed-clause-comes
returns-in-Ok-Stayed-clause-comes c =
    stays_for_ever c.args.job.now c.args.draws.now.trace c.args.step c.args.monitor.now c.args.work.now.state.items c.args.draws.now c.args.pair
    c.stand.result c.requires.visited
    (c.in-Ok-Stayed.ensures.stayed (ap Ok c.in-Ok-Stayed.field-0-is)) c.stays_without_choice.ensures c.stand.ensures

pub returns-in-Err-clause-comes : goal.returns-in-Err-clause-comes
returns-in-Err-clause-comes c =
    faults_next c.args.job.now c.args.draws.now.trace c.args.step c.args.monitor.now c.args.work.now.state.items c.args.draws.now c.args.pair
    c.in-Err.fault c.requires.visited c.in-Err.ensures.step
