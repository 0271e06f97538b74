use Rattle.std.proofs.Common.{bytes_eq}
use Rattle.indexmap.specs.IndexMap.{get}
use Rattle.module_expand.proofs.TwiceLemmas.{name_twice, name_not_twice}
use Rattle.module_expand.proofs.repeated.repeated_name.Goals as goal

pub returns-then-counted_times-gt1 : goal.returns-then-counted_times-gt1
returns-then-counted_times-gt1 c = name_twice (get bytes_eq c.args.counts.now) (c.args.kind, c.args.name.now)
    c.counted_times.result c.counted_times.ensures c.if-counted_times-gt1.true

pub returns-else-counted_times-gt1 : goal.returns-else-counted_times-gt1
returns-else-counted_times-gt1 c = name_not_twice (get bytes_eq c.args.counts.now) (c.args.kind, c.args.name.now)
    c.counted_times.result c.counted_times.ensures c.if-counted_times-gt1.false
