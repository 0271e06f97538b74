use Rattle.std.proofs.Common.{◌≡◌, drop}
use Rattle.std.specs.Prelude.{filter}
use Rattle.successors.specs.Enabled.{is_enabled}
use Rattle.successors.proofs.lanes.first_enabled.Given as goal

-- no command so far is enabled
abbrev pub invariant-loop-index : goal.invariant-loop-index
invariant-loop-index l = filter (is_enabled l.lane l.enabled) (drop l.index l.numbers) ≡ filter (is_enabled l.lane l.enabled) l.numbers
