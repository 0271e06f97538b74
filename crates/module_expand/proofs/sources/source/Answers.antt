use Rattle.std.proofs.Common.{sym, ◌∙◌}
use Rattle.module_expand.specs.Flat.{is_written_as}
use Rattle.module_expand.proofs.FirstLemmas.{find-at_position, find-no_position}
use Rattle.module_expand.proofs.OrderLemmas.{got_item}
use Rattle.module_expand.proofs.sources.source.Goals as goal

-- the module at the place that the table has
pub returns-in-Some : goal.returns-in-Some
returns-in-Some c = got_item c.args.modules.now c.in-Some.place.now c.get-in-Some.result
    c.get-in-Some.ensures.lookup.2 c.get-in-Some.ensures.lookup.3
    ∙ sym (find-at_position (is_written_as c.args.name.now) c.args.modules.now c.in-Some.place.now
    (sym (c.requires c.args.name.now) ∙ sym c.in-Some.ensures.value))

pub returns-in-None : goal.returns-in-None
returns-in-None c = sym (find-no_position (is_written_as c.args.name.now) c.args.modules.now
    (sym (c.requires c.args.name.now) ∙ sym c.in-None.ensures.value))
