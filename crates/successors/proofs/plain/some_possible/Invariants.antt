use Rattle.std.proofs.Common.{◌≡◌, drop}
use Rattle.std.specs.List.{list_any}
use Rattle.successors.specs.Plain.{holds_at, is_possible}
use Rattle.successors.proofs.plain.some_possible.Given as goal

-- no action so far is possible
abbrev pub invariant-loop-lists : goal.invariant-loop-lists
invariant-loop-lists l =
    list_any (is_possible (holds_at l.guards l.state)) (drop l.lists-index l.actions) ≡ list_any (is_possible (holds_at l.guards l.state)) l.actions
