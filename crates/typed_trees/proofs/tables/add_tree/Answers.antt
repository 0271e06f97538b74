use Rattle.std.proofs.Common.{◌≡◌, sym, ◌∙◌, bytes_eq}
use Rattle.indexmap.specs.IndexMap.{get}
use Rattle.typed_trees.proofs.TableLemmas.{tree-added, tree-kept, copied-None, copied-Some}
use Rattle.typed_trees.proofs.tables.add_tree.Goals as goal

pub returns-in_ok-insert : goal.returns-in_ok-insert
returns-in_ok-insert c = λ trees is.
    tree-added c.args.name c.args.tree trees (get bytes_eq c.args.table.now) is (get bytes_eq c.insert.new.self)
    (sym c.get.ensures.value ∙ copied-None c.get.result c.is_none.result c.is_none.ensures c.if-is_none.true) (λ q. c.in_ok-insert.ensures.updates.0 q)

pub returns-else-is_none : goal.returns-else-is_none
returns-else-is_none c = λ trees is.
    let there = copied-Some c.get.result c.is_none.result c.is_none.ensures c.if-is_none.false in
    tree-kept c.args.name c.args.tree trees (get bytes_eq c.args.table.now) is there.0 (sym c.get.ensures.value ∙ there.1)
