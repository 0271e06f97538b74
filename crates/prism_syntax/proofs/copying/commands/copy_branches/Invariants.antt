use Rattle.std.proofs.Common.{◌≡◌, take}
use Rattle.prism_syntax.proofs.copying.commands.copy_branches.Given as goal

-- the copies so far
abbrev pub invariant-loop-branch : goal.invariant-loop-branch
invariant-loop-branch l = l.copies ≡ take l.branch-index l.branches
