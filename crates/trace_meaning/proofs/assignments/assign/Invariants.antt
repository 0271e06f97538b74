use Rattle.std.proofs.Common.{◌≡◌, drop}
use Rattle.trace_meaning.specs.Assigning.{assigned_to}
use Rattle.trace_meaning.proofs.assignments.assign.Given as goal

-- the assignments that are left go on from the copy
abbrev pub invariant-loop-set : goal.invariant-loop-set
invariant-loop-set l = assigned_to l.chain l.state l.copy (drop l.set-index l.sets) ≡ assigned_to l.chain l.state l.fn.copy l.sets
