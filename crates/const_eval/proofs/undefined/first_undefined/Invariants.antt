use Rattle.std.proofs.Common.{◌≡◌, take, find, not, ◌&&◌, is_some, bytes_eq}
use Rattle.std.specs.Prelude.{None}
use Rattle.indexmap.specs.IndexMap.{get}
use Rattle.const_eval.proofs.undefined.first_undefined.Given as goal

-- none so far is without a value
abbrev pub invariant-loop-constant : goal.invariant-loop-constant
invariant-loop-constant l = find (λ c. not (is_some c.value) && not (is_some (get bytes_eq l.given c.name))) (take l.constant-index l.consts) ≡ None
