use Rattle.std.proofs.Common.{◌≡◌, ℕ, List, take, bytes_eq}
use Rattle.indexmap.specs.IndexMap.{get}
use Rattle.const_eval.specs.Constants.{given_to}
use Rattle.const_eval.proofs.givens.given_table.Given as goal

-- what has been given so far
abbrev pub invariant-loop-item : goal.invariant-loop-item
invariant-loop-item l = (name : List ℕ) → get bytes_eq l.table name ≡ given_to (take l.item-index l.given) name
