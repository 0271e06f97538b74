use Rattle.std.proofs.Common.{◌≡◌, map, take, bytes_eq, find, is_some}
use Rattle.std.specs.Prelude.{None}
use Rattle.indexmap.specs.IndexMap.{get}
use Rattle.module_expand.proofs.modules.find_formula.Given as goal

-- none of the right names so far is a formula
abbrev pub invariant-loop-pair : goal.invariant-loop-pair
invariant-loop-pair l = find (λ name. is_some (get bytes_eq l.formulas name))
    (map (λ p. p.1) (take l.pair-index l.pairs)) ≡ None
