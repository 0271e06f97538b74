use Rattle.std.proofs.Common.{◌≡◌, map, take}
use Rattle.module_expand.proofs.modules.lefts.Given as goal

-- the left names so far
abbrev pub invariant-loop-pair : goal.invariant-loop-pair
invariant-loop-pair l = map (λ name. name.now) l.names.items ≡ map (λ p. p.0) (take l.pair-index l.pairs)
