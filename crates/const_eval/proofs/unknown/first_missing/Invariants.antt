use Rattle.std.proofs.Common.{◌≡◌, take, map, find, not, is_some, bytes_eq}
use Rattle.std.specs.Prelude.{None}
use Rattle.indexmap.specs.IndexMap.{get}
use Rattle.const_eval.proofs.unknown.first_missing.Given as goal

-- each name so far is a constant
abbrev pub invariant-loop-name : goal.invariant-loop-name
invariant-loop-name l = find (λ name. not (is_some (get bytes_eq l.sorts name))) (map (λ name. name.now) (take l.name-index l.names)) ≡ None
