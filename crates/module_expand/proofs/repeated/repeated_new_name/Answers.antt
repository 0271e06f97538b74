use Rattle.std.proofs.Common.{bytes_eq, ap, ◌∙◌}
use Rattle.std.specs.List.{filter_map}
use Rattle.indexmap.specs.IndexMap.{get}
use Rattle.module_expand.specs.Renamed.{right_of}
use Rattle.module_expand.specs.Duplicates.{values}
use Rattle.module_expand.specs.Times.{first_twice}
use Rattle.module_expand.proofs.repeated.repeated_new_name.Goals as goal

pub returns-then-has_repeated : goal.returns-then-has_repeated
returns-then-has_repeated c =
    let pairs = c.args.pairs.now in
    c.first_new_name.ensures pairs c.requires
    ∙ ap (λ names. first_twice (get bytes_eq c.args.counts.now) (values (filter_map (right_of pairs) names)))
    c.variables.ensures
