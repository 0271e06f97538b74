use Rattle.std.proofs.Common.{◌<◌, arith, subst, bytes_eq}
use Rattle.std.specs.Prelude.{position, IfSome}
use Rattle.indexmap.specs.IndexMap.{keys, index_map_len}
use Rattle.prism_names.proofs.NameLemmas.{one_more}
use Rattle.const_eval.proofs.TableLemmas.{filter_more}
use Rattle.const_eval.proofs.cycles.places.Goals as goal

pub note_place-requires : goal.note_place-requires
note_place-requires c number is =
    let within = subst (λ found. IfSome found (λ i. i < index_map_len c.args.sorts.now)) is c.get_index_of.ensures.within in
    omega (arith, within, c.requires)

pub loop-name-preserved : goal.loop-name-preserved
loop-name-preserved c =
    filter_more (λ name. position (bytes_eq name) (keys c.args.sorts.now)) _ _ _ _ _ _
    (one_more (λ name. name.now) c.args.names.now c.loop-name.name-index c.name-item.result c.loop-name-test.true c.name-item.is)
    c.loop-name.invariant c.get_index_of.ensures.index c.in_ok-note_place.ensures
