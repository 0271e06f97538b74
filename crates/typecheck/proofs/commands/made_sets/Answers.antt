use Rattle.std.proofs.Common.{ℕ, List, Option, bytes_eq, ◌∙◌, sym, refl, map}
use Rattle.indexmap.specs.IndexMap.{get}
use Rattle.chain_model.specs.declared.expressions.Typed.{Typed}
use Rattle.prism_syntax.specs.declared.expressions.Expr.{Expr}
use Rattle.prism_names.specs.First.{Name}
use Rattle.typed_trees.specs.Scopes.{tree_in}
use Rattle.typecheck.specs.Parts.{all_made, made_set}
use Rattle.typecheck.proofs.MakingLemmas.{one_made, one_missing, all_there}
use Rattle.typecheck.proofs.commands.made_sets.Goals as goal

pub loop-set-preserved : goal.loop-set-preserved
loop-set-preserved c =
    let parts : List (Name × Expr) → List (Option (ℕ × Typed)) = (λ xs. map (made_set (tree_in c.args.scope.now) (get bytes_eq c.args.scope.now.variables.now)) xs) in
    let part : Name × Expr → Option (ℕ × Typed) = made_set (tree_in c.args.scope.now) (get bytes_eq c.args.scope.now.variables.now) in
    one_made parts part (λ x xs. refl) c.args.sets.now c.loop-set.set-index c.loop-set.made (all_made (parts c.args.sets.now))
    c.loop-set.invariant c.set-item.result c.push.new.self c.in-Some.one c.loop-set-test.true c.set-item.is
    (sym c.in-Some.is ∙ c.in_ok-one.ensures) c.in_ok-push-in-Some.ensures.ok

pub returns-in-None : goal.returns-in-None
returns-in-None c =
    let parts : List (Name × Expr) → List (Option (ℕ × Typed)) = (λ xs. map (made_set (tree_in c.args.scope.now) (get bytes_eq c.args.scope.now.variables.now)) xs) in
    let part : Name × Expr → Option (ℕ × Typed) = made_set (tree_in c.args.scope.now) (get bytes_eq c.args.scope.now.variables.now) in
    one_missing parts part (λ x xs. refl) c.args.sets.now c.loop-set.set-index c.loop-set.made (all_made (parts c.args.sets.now))
    c.loop-set.invariant c.set-item.result c.loop-set-test.true c.set-item.is (sym c.in-None.is ∙ c.in_ok-one.ensures)

pub returns : goal.returns
returns c =
    let parts : List (Name × Expr) → List (Option (ℕ × Typed)) = (λ xs. map (made_set (tree_in c.args.scope.now) (get bytes_eq c.args.scope.now.variables.now)) xs) in
    let part : Name × Expr → Option (ℕ × Typed) = made_set (tree_in c.args.scope.now) (get bytes_eq c.args.scope.now.variables.now) in
    all_there parts part (λ x xs. refl) c.args.sets.now c.loop-set.set-index c.loop-set.made (all_made (parts c.args.sets.now))
    c.loop-set.invariant refl c.loop-set-test.false
