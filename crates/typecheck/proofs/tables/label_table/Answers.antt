use Rattle.std.proofs.Common.{List, ◌++◌, take, subst, refl}
use Rattle.std.proofs.lemmas.List.{take_all}
use Rattle.chain_model.specs.declared.expressions.Typed.{Typed}
use Rattle.prism_names.specs.First.{Name}
use Rattle.typed_trees.specs.Scopes.{IsTable}
use Rattle.typecheck.specs.Paths.{built_in}
use Rattle.typecheck.proofs.TableLemmas.{labels-more}
use Rattle.typecheck.proofs.tables.label_table.Goals as goal

pub loop-label-preserved : goal.loop-label-preserved
loop-label-preserved c =
    let label = c.label-item.result in
    subst (λ (trees : List (Name × Typed)). IsTable c.add_label.new.table trees)
    (labels-more c.args.labels.now c.loop-label.label-index label label.0 label.1 c.loop-label-test.true c.label-item.is refl refl)
    (c.in_ok-add_label.ensures (built_in ++ take c.loop-label.label-index c.args.labels.now) c.loop-label.invariant)

pub returns : goal.returns
returns c =
    subst (λ (trees : List (Name × Typed)). IsTable c.loop-label.table (built_in ++ trees))
    (take_all c.loop-label.label-index c.args.labels.now c.loop-label-test.false) c.loop-label.invariant
