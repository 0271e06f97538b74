use Rattle.std.proofs.Common.{◌≡◌, List, ℕ, take, bytes_eq}
use Rattle.std.specs.Option.{option_copied}
use Rattle.indexmap.specs.IndexMap.{get}
use Rattle.module_expand.specs.Renamed.{right_of}
use Rattle.module_expand.proofs.renamings.new_names.Given as goal

-- the right sides among the pairs so far
abbrev pub invariant-loop-left : goal.invariant-loop-left
invariant-loop-left l = (n : List ℕ) → option_copied (get bytes_eq l.names n) ≡ right_of (take l.left-index l.pairs) n
