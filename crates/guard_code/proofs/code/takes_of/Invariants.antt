use Rattle.std.proofs.Common.{◌≡◌, map, take}
use Rattle.guard_code.proofs.code.takes_of.Given as goal

-- the actions so far
abbrev pub invariant-loop-action : goal.invariant-loop-action
invariant-loop-action l = l.takes ≡ map (λ action. action.takes) (take l.action-index l.actions)
