use Rattle.std.proofs.Common.{◌≡◌, map, take, bytes_eq}
use Rattle.std.specs.Option.{option_copied}
use Rattle.indexmap.specs.IndexMap.{get}
use Rattle.module_expand.specs.Renamed.{copied_branch}
use Rattle.module_expand.proofs.copies.copy_branches.Given as goal

-- the copies so far
abbrev pub invariant-loop-branch : goal.invariant-loop-branch
invariant-loop-branch l = l.copies ≡ map (copied_branch (λ n. option_copied (get bytes_eq l.names n))
    (get bytes_eq l.trees)) (take l.branch-index l.branches)
