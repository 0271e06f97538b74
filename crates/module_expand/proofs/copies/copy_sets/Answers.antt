use Rattle.std.proofs.Common.{bytes_eq}
use Rattle.std.specs.Option.{option_copied}
use Rattle.indexmap.specs.IndexMap.{get}
use Rattle.module_expand.specs.Renamed.{copied_set}
use Rattle.module_expand.proofs.FirstLemmas.{pushed_more}
use Rattle.module_expand.proofs.copies.copy_sets.Goals as goal

pub loop-set-preserved : goal.loop-set-preserved
loop-set-preserved c =
    pushed_more (copied_set (λ n. option_copied (get bytes_eq c.args.names.now n)) (get bytes_eq c.args.trees.now))
    c.args.sets.now c.loop-set.set-index c.set-item.result c.in_ok-copy_set.field-0 c.loop-set.copies c.push.new.self
    c.loop-set-test.true c.set-item.is c.in_ok-copy_set.ensures c.loop-set.invariant c.in_ok-push.ensures.ok
