use Rattle.std.proofs.Common.{take, bytes_eq}
use Rattle.std.specs.List.{All}
use Rattle.indexmap.specs.IndexMap.{get}
use Rattle.module_expand.proofs.TwiceLemmas.{GivesNone}
use Rattle.module_expand.proofs.repeated.has_repeated.Given as goal

-- none of the pairs so far gives a name that was counted more than once
abbrev pub invariant-loop-left : goal.invariant-loop-left
invariant-loop-left l = All (GivesNone (get bytes_eq l.counts) l.source l.pairs) (take l.left-index l.pairs)
