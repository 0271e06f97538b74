use Rattle.std.proofs.Common.{ap, cond, ◌∙◌, ◌+◌, bytes_eq}
use Rattle.std.specs.Prelude.{Some}
use Rattle.indexmap.specs.IndexMap.{get}
use Rattle.prism_names.proofs.NameLemmas.{one_more}
use Rattle.typed_trees.specs.Numbers.{value_of_name}
use Rattle.typed_trees.proofs.TableLemmas.{valued-more}
use Rattle.typed_trees.proofs.numbers.values_of.Goals as goal

pub loop-name-preserved : goal.loop-name-preserved
loop-name-preserved c =
    valued-more _ _ c.name-item.result.now (get bytes_eq c.loop-name.table) (get bytes_eq c.insert.new.self) (value_of_name c.args.consts.now) c.value_of_name-found.result
    (one_more (λ name. name.now) c.args.names.now c.loop-name.name-index c.name-item.result c.loop-name-test.true c.name-item.is) c.loop-name.invariant
    c.value_of_name-found.ensures
    (λ q. c.in_ok-insert.ensures.updates.0 q ∙ ap (λ z. cond (bytes_eq z q) (Some c.value_of_name-found.result) (get bytes_eq c.loop-name.table q)) c.in_ok-copy.ensures)
