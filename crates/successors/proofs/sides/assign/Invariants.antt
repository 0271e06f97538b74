use Rattle.std.proofs.Common.{◌≡◌, drop}
use Rattle.successors.specs.Sides.{assigned_sides}
use Rattle.successors.proofs.sides.assign.Given as goal

-- the assignments that are left go on from the copy
abbrev pub invariant-loop-side : goal.invariant-loop-side
invariant-loop-side l = assigned_sides l.state l.copy (drop l.side-index l.sides) ≡ assigned_sides l.state l.fn.copy l.sides
