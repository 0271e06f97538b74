use Rattle.std.proofs.Common.{sym, ap, ◌∙◌}
use Rattle.std.specs.Prelude.{slice_get}
use Rattle.std.specs.Option.{option_map}
use Rattle.std.proofs.lemmas.Option.{slice_get-map}
use Rattle.module_expand.specs.Flat.{is_written_as}
use Rattle.module_expand.specs.Renamed.{variable_names}
use Rattle.module_expand.proofs.FirstLemmas.{find-at_position, find-no_position}
use Rattle.module_expand.proofs.OrderLemmas.{got_item}
use Rattle.module_expand.proofs.declarations.source_names.Goals as goal

-- the names at the place that the table has
pub returns-in-Some : goal.returns-in-Some
returns-in-Some c = λ modules table same.
    let place = c.in-Some.place.now in
    got_item c.args.names.now place c.get-in-Some.result
    c.get-in-Some.ensures.lookup.2 c.get-in-Some.ensures.lookup.3
    ∙ (ap (λ xs. slice_get xs place) same ∙ (slice_get-map variable_names modules place
    ∙ ap (option_map variable_names) (sym (find-at_position (is_written_as c.args.name.now) modules place
    (sym (table c.args.name.now) ∙ sym c.in-Some.ensures.value)))))

pub returns-in-None : goal.returns-in-None
returns-in-None c = λ modules table same. sym (ap (option_map variable_names)
    (find-no_position (is_written_as c.args.name.now) modules
    (sym (table c.args.name.now) ∙ sym c.in-None.ensures.value)))
