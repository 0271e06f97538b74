use Rattle.std.proofs.Common.{sym, ◌∙◌, bytes_eq}
use Rattle.std.specs.Prelude.{None, Some, if◌then◌else◌}
use Rattle.const_eval.proofs.FirstLemmas.{told_more, told_here}
use Rattle.indexmap.specs.IndexMap.{get}
use Rattle.typecheck.specs.Writes.{is_global}
use Rattle.typecheck.proofs.writes.global_in_sets.Goals as goal

pub returns-in-Some : goal.returns-in-Some
returns-in-Some c =
    sym (told_here c.args.sets.now c.loop-set.set-index c.set-item.result c.loop-set-test.true c.set-item.is
    (λ s. if is_global (get bytes_eq c.args.owners.now s.0) then Some s.0 else None) c.loop-set.invariant c.in-Some.name (sym c.in_ok-name.ensures ∙ c.in-Some.is))

pub loop-set-preserved : goal.loop-set-preserved
loop-set-preserved c =
    told_more c.args.sets.now c.loop-set.set-index c.set-item.result c.loop-set-test.true c.set-item.is
    (λ s. if is_global (get bytes_eq c.args.owners.now s.0) then Some s.0 else None) c.loop-set.invariant ∙ (sym c.in_ok-name.ensures ∙ c.in-None.is)
