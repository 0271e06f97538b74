use Rattle.std.proofs.Common.{◌≡◌, take, is_some, bytes_eq}
use Rattle.std.specs.Prelude.{None}
use Rattle.indexmap.specs.IndexMap.{get}
use Rattle.const_eval.specs.Refusals.{first_unread}
use Rattle.const_eval.proofs.unknown.first_unread.Given as goal

-- each name that the definitions so far read is a constant
abbrev pub invariant-loop-constant : goal.invariant-loop-constant
invariant-loop-constant l = first_unread (λ name. is_some (get bytes_eq l.sorts name)) (take l.constant-index l.consts) ≡ None
