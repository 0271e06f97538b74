use Rattle.std.proofs.Common.{List, [], ◌∷◌, ◌++◌, subst}
use Rattle.std.specs.Prelude.{OnOk}
use Rattle.chain_model.specs.declared.expressions.Typed.{Typed}
use Rattle.prism_names.specs.First.{Name}
use Rattle.typed_trees.specs.Leaves.{variable}
use Rattle.typed_trees.specs.Scopes.{IsTable}
use Rattle.typecheck.proofs.tables.add_variable.Goals as goal

pub returns : goal.returns
returns c =
    subst (λ (name : Name). OnOk c.add_tree.result ((trees : List (Name × Typed)) → IsTable c.args.table.now trees
    → IsTable c.add_tree.new.table (trees ++ (name, variable c.args.sort c.args.number) ∷ [])))
    c.in_ok-name.ensures c.add_tree.ensures
