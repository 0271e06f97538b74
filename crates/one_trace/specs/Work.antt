-- When the memory for drawing traces was made for a job.
use Rattle.std.specs.Prelude.{◌≡◌, Some, IfSome, length, slice_get}
use Rattle.chain_model.specs.declared.job.Job.{Job}
use Rattle.chain_model.specs.States.{IsState, initial_of}
use Rattle.guard_code.specs.Codes.{IsCode}
use Rattle.successors.specs.Steppers.{IsStepperOf}
use Rattle.one_trace.specs.declared.work.TraceWork.{TraceWork}
use Rattle.one_trace.specs.Known.{IsKnown}
use Rattle.one_trace.specs.Kept.{AreKept}

-- a work has the code and the steps of a job, its initial state with its number if it has one, what is known of states
-- and of their choices, and room for three more
pub record IsMadeFor (job : Job) (work : TraceWork) : Type 0 where
  pub code : IsCode job work.code
  pub stepper : IsStepperOf job work.stepper
  pub known : IsKnown job work.known
  pub kept : AreKept job work.known.table.states work.kept
  pub initial : work.initial.items ≡ initial_of job.chain
  pub starts : IsState job.chain work.initial.items
  pub start : IfSome work.start (λ number. slice_get work.known.table.states number ≡ Some work.initial.items)
  pub room : length work.state.items ≡ length work.initial.items
  pub first : length work.first.items ≡ length work.initial.items
  pub second : length work.second.items ≡ length work.initial.items
