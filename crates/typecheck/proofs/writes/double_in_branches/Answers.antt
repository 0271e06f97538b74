use Rattle.std.proofs.Common.{sym, ◌∙◌}
use Rattle.const_eval.proofs.FirstLemmas.{told_more, told_here}
use Rattle.prism_names.specs.First.{first_repeated}
use Rattle.typecheck.specs.Writes.{assigned_names}
use Rattle.typecheck.proofs.writes.double_in_branches.Goals as goal

pub returns-in-Some : goal.returns-in-Some
returns-in-Some c =
    sym (told_here c.args.branches.now c.loop-branch.branch-index c.branch-item.result c.loop-branch-test.true c.branch-item.is
    (λ b. first_repeated (assigned_names b) (assigned_names b)) c.loop-branch.invariant c.in-Some.name (sym c.in_ok-name.ensures ∙ c.in-Some.is))

pub loop-branch-preserved : goal.loop-branch-preserved
loop-branch-preserved c =
    told_more c.args.branches.now c.loop-branch.branch-index c.branch-item.result c.loop-branch-test.true c.branch-item.is
    (λ b. first_repeated (assigned_names b) (assigned_names b)) c.loop-branch.invariant ∙ (sym c.in_ok-name.ensures ∙ c.in-None.is)
