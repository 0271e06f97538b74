use Rattle.std.proofs.Common.{List, [], ◌∷◌, subst}
use Rattle.std.proofs.lemmas.Result.{on_ok_weaker}
use Rattle.chain_model.specs.declared.expressions.Typed.{Typed}
use Rattle.prism_names.specs.First.{Name}
use Rattle.typed_trees.specs.Scopes.{IsTable}
use Rattle.typecheck.proofs.tables.add_built_in.Goals as goal

pub returns : goal.returns
returns c =
    on_ok_weaker c.add_tree-2.result (λ listed none. subst (λ (trees : List (Name × Typed)). IsTable c.add_tree-2.new.table trees)
    (λ i. (c.in_ok-init.ensures i, c.truth_tree.ensures i) ∷ ((c.in_ok-deadlock.ensures i, c.truth_tree-2.ensures i) ∷ []))
    (listed ((c.in_ok-init.init, c.truth_tree.result) ∷ []) (c.in_ok-add_tree.ensures [] none))) c.add_tree-2.ensures
