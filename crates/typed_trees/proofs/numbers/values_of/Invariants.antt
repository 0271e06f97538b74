use Rattle.std.proofs.Common.{◌≡◌, List, ℕ, Contains, map, take, bytes_eq}
use Rattle.indexmap.specs.IndexMap.{get}
use Rattle.const_eval.specs.Evaluating.{by_table}
use Rattle.typed_trees.specs.Numbers.{value_of_name}
use Rattle.typed_trees.proofs.numbers.values_of.Given as goal

-- the names so far have their values
abbrev pub invariant-loop-name : goal.invariant-loop-name
invariant-loop-name l = (n : List ℕ) → Contains (map (λ name. name.now) (take l.name-index l.names)) n → by_table (get bytes_eq l.table) n ≡ value_of_name l.consts n
