use Rattle.std.specs.Prelude.{filter, slice_get}
use Rattle.successors.specs.Enabled.{is_enabled}
use Rattle.successors.proofs.FilterLemmas.{Stands}
use Rattle.successors.proofs.lanes.nth_enabled.Given as goal

-- the command stands among the enabled ones that are left
abbrev pub invariant-loop-number : goal.invariant-loop-number
invariant-loop-number l =
    Stands (is_enabled l.fn.lane l.enabled) l.numbers l.number-index l.left (slice_get (filter (is_enabled l.fn.lane l.enabled) l.numbers) l.fn.index)
