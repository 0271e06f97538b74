use Rattle.std.proofs.Common.{List, map, take, refl, subst}
use Rattle.chain_model.specs.declared.expressions.Typed.{Typed}
use Rattle.prism_names.specs.First.{Name}
use Rattle.typed_trees.specs.Leaves.{numbered}
use Rattle.typed_trees.specs.Scopes.{IsTable}
use Rattle.typecheck.specs.Declarations.{declared_sort}
use Rattle.typecheck.proofs.TableLemmas.{declared-more}
use Rattle.typecheck.proofs.tables.declared_table.Goals as goal

pub loop-number-preserved : goal.loop-number-preserved
loop-number-preserved c =
    let variable = c.index-variables-number.result in
    subst (λ (trees : List (Name × Typed)). IsTable c.add_variable.new.table trees)
    (declared-more (λ v. (v.1.now.name, declared_sort v.1.now)) c.args.variables.now c.loop-number.number variable variable.1.now.name c.declared_sort-sort.result c.shown.result
    c.loop-number-test.true c.index-variables-number.is refl c.declared_sort-sort.ensures c.shown.ensures)
    (c.in_ok-add_variable.ensures (numbered (map (λ v. (v.1.now.name, declared_sort v.1.now)) (take c.loop-number.number c.args.variables.now))) c.loop-number.invariant)
