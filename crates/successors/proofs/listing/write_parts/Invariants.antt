use Rattle.std.proofs.Common.{◌≡◌, ◌<◌, ℕ, Some, slice_get}
use Rattle.successors.specs.Enabled.{is_enabled}
use Rattle.successors.specs.Partition.{choice_lists}
use Rattle.successors.specs.Choosing.{part_of}
use Rattle.successors.proofs.listing.write_parts.Given as goal

-- the choices of the numbers so far are written
abbrev pub invariant-loop-number : goal.invariant-loop-number
invariant-loop-number l = (k : ℕ) → k < l.number → slice_get (choice_lists (is_enabled 0 l.enabled) l.singles l.actions) k ≡ Some (part_of l.size l.chosen k)
