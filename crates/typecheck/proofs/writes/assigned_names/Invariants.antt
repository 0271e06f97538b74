use Rattle.std.proofs.Common.{◌≡◌, map, take}
use Rattle.typecheck.proofs.writes.assigned_names.Given as goal

-- the names so far
abbrev pub invariant-loop-set : goal.invariant-loop-set
invariant-loop-set l = map (λ name. name.now) l.names.items ≡ map (λ s. s.0) (take l.set-index l.sets)
