use Rattle.std.proofs.Common.{sym, ◌∙◌, bytes_eq}
use Rattle.std.specs.Prelude.{None, Some, if◌then◌else◌}
use Rattle.const_eval.proofs.FirstLemmas.{told_more, told_here}
use Rattle.indexmap.specs.IndexMap.{get}
use Rattle.prism_names.specs.First.{first_some}
use Rattle.typecheck.specs.Writes.{is_global}
use Rattle.typecheck.proofs.writes.global_in_branches.Goals as goal

pub returns-in-Some : goal.returns-in-Some
returns-in-Some c =
    sym (told_here c.args.branches.now c.loop-branch.branch-index c.branch-item.result c.loop-branch-test.true c.branch-item.is
    (λ b. first_some (λ s. if is_global (get bytes_eq c.args.owners.now s.0) then Some s.0 else None) b.sets) c.loop-branch.invariant c.in-Some.name (sym c.in_ok-name.ensures ∙ c.in-Some.is))

pub loop-branch-preserved : goal.loop-branch-preserved
loop-branch-preserved c =
    told_more c.args.branches.now c.loop-branch.branch-index c.branch-item.result c.loop-branch-test.true c.branch-item.is
    (λ b. first_some (λ s. if is_global (get bytes_eq c.args.owners.now s.0) then Some s.0 else None) b.sets) c.loop-branch.invariant ∙ (sym c.in_ok-name.ensures ∙ c.in-None.is)
