-- What a monitor tells of the pairs that it has seen: whether they settle its path formula, and how.
use Rattle.std.specs.Prelude.{◌≡◌, List, Bool, true, false, length}
use Rattle.chain_model.specs.declared.job.PathKind.{PathKind}
use Rattle.chain_model.specs.Trace.{Pair}
use Rattle.chain_model.specs.Settling.{Settles}
use Rattle.path_monitor.specs.declared.step.Step.{Step}
use Rattle.path_monitor.specs.declared.step.Step.TheVariants.{True, False, More}
use Rattle.path_monitor.specs.declared.monitor.Monitor.{Monitor}

-- the pairs settle the path formula neither as true nor as false
abbrev pub IsOpen : PathKind → List Pair → Type 0
IsOpen kind pairs = (truth : Bool) → ¬ Settles kind pairs truth

-- the pairs settle the path formula as the step says
abbrev pub Judges : PathKind → List Pair → Step → Type 0
Judges kind pairs True = Settles kind pairs true
Judges kind pairs False = Settles kind pairs false
Judges kind pairs More = IsOpen kind pairs

-- a monitor that isn't settled has seen these pairs
pub record HasSeen (monitor : Monitor) (pairs : List Pair) : Type 0 where
  pub count : length pairs ≡ monitor.seen
  pub unsettled : IsOpen monitor.kind pairs
