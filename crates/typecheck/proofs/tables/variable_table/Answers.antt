use Rattle.std.proofs.Common.{List, take, refl, subst}
use Rattle.chain_model.specs.declared.expressions.Typed.{Typed}
use Rattle.prism_names.specs.First.{Name}
use Rattle.typed_trees.specs.Leaves.{numbered}
use Rattle.typed_trees.specs.Scopes.{IsTable}
use Rattle.typecheck.specs.Paths.{sorts_of_variables}
use Rattle.typecheck.proofs.TableLemmas.{variables-more}
use Rattle.typecheck.proofs.tables.variable_table.Goals as goal

pub loop-number-preserved : goal.loop-number-preserved
loop-number-preserved c =
    let var = c.index-vars-number.result in
    subst (λ (trees : List (Name × Typed)). IsTable c.add_variable.new.table trees)
    (variables-more c.args.vars.now c.loop-number.number var var.name c.requires c.loop-number-test.true c.index-vars-number.is refl)
    (c.in_ok-add_variable.ensures (numbered (sorts_of_variables (take c.loop-number.number c.args.vars.now))) c.loop-number.invariant)
