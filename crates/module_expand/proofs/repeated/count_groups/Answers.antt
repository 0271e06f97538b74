use Rattle.std.proofs.Common.{bytes_eq}
use Rattle.indexmap.specs.IndexMap.{get}
use Rattle.module_expand.specs.Groups.{stated}
use Rattle.module_expand.proofs.CountLemmas.{adds_more, adds_none}
use Rattle.module_expand.proofs.repeated.count_groups.Goals as goal

pub loop-group-init : goal.loop-group-init
loop-group-init c = adds_none (get bytes_eq c.args.counts.now)

pub loop-group-preserved : goal.loop-group-preserved
loop-group-preserved c = adds_more stated c.args.groups.now c.loop-group.group-index c.group-item.result
    (get bytes_eq c.args.counts.now) (get bytes_eq c.loop-group.counts) (get bytes_eq c.count_group.new.counts)
    c.loop-group-test.true c.group-item.is c.loop-group.invariant c.in_ok-count_group.ensures
