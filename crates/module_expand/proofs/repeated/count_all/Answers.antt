use Rattle.std.proofs.Common.{bytes_eq, rules}
use Rattle.std.specs.Prelude.{None}
use Rattle.std.specs.List.{flat_map}
use Rattle.indexmap.specs.IndexMap.{get}
use Rattle.module_expand.specs.Groups.{stated}
use Rattle.module_expand.proofs.CountLemmas.{adds_both, adds_from_empty}
use Rattle.module_expand.proofs.repeated.count_all.Goals as goal

pub returns : goal.returns
returns c = adds_both (λ _. None) (get bytes_eq c.count_groups.new.counts) (get bytes_eq c.count_groups-2.new.counts)
    (flat_map stated c.args.before.now) (flat_map stated c.args.declared.now)
    (adds_from_empty (get bytes_eq c.new-counts.result) (get bytes_eq c.count_groups.new.counts)
    (flat_map stated c.args.before.now) (search rules) c.in_ok-count_groups.ensures)
    c.in_ok-count_groups-2.ensures
