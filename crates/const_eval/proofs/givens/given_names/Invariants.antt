use Rattle.std.proofs.Common.{◌≡◌, map, take}
use Rattle.const_eval.specs.Constants.{given_names}
use Rattle.const_eval.proofs.givens.given_names.Given as goal

-- the names so far
abbrev pub invariant-loop-item : goal.invariant-loop-item
invariant-loop-item l = map (λ name. name.now) l.names.items ≡ given_names (take l.item-index l.given)
