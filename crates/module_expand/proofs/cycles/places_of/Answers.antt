use Rattle.std.proofs.Common.{bytes_eq, ◌∙◌}
use Rattle.indexmap.specs.IndexMap.{get}
use Rattle.module_expand.proofs.FirstLemmas.{filtered_more}
use Rattle.module_expand.proofs.cycles.places_of.Goals as goal

pub loop-name-preserved : goal.loop-name-preserved
loop-name-preserved c = filtered_more (get bytes_eq c.args.places.now) (λ n. n.now)
    c.args.names.now c.loop-name.name-index c.name-item.result c.loop-name.uses c.note_place.new.uses
    c.copied.result c.loop-name-test.true c.name-item.is (c.copied.ensures ∙ c.get.ensures.value)
    c.loop-name.invariant c.in_ok-note_place.ensures
