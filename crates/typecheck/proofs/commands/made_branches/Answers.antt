use Rattle.std.proofs.Common.{List, Option, bytes_eq, ◌∙◌, sym, refl, map}
use Rattle.indexmap.specs.IndexMap.{get}
use Rattle.chain_model.specs.declared.chain.Arm.{Arm}
use Rattle.prism_syntax.specs.declared.commands.Branch.{Branch}
use Rattle.typed_trees.specs.Scopes.{tree_in}
use Rattle.typecheck.specs.Parts.{all_made, made_branch}
use Rattle.typecheck.proofs.MakingLemmas.{one_made, one_missing, all_there}
use Rattle.typecheck.proofs.commands.made_branches.Goals as goal

pub loop-branch-preserved : goal.loop-branch-preserved
loop-branch-preserved c =
    let parts : List (Branch) → List (Option (Arm)) = (λ xs. map (made_branch (tree_in c.args.scope.now) (get bytes_eq c.args.scope.now.variables.now)) xs) in
    let part : Branch → Option (Arm) = made_branch (tree_in c.args.scope.now) (get bytes_eq c.args.scope.now.variables.now) in
    one_made parts part (λ x xs. refl) c.args.branches.now c.loop-branch.branch-index c.loop-branch.arms (all_made (parts c.args.branches.now))
    c.loop-branch.invariant c.branch-item.result c.push.new.self c.in-Some.arm c.loop-branch-test.true c.branch-item.is
    (sym c.in-Some.is ∙ c.in_ok-arm.ensures) c.in_ok-push-in-Some.ensures.ok

pub returns-in-None : goal.returns-in-None
returns-in-None c =
    let parts : List (Branch) → List (Option (Arm)) = (λ xs. map (made_branch (tree_in c.args.scope.now) (get bytes_eq c.args.scope.now.variables.now)) xs) in
    let part : Branch → Option (Arm) = made_branch (tree_in c.args.scope.now) (get bytes_eq c.args.scope.now.variables.now) in
    one_missing parts part (λ x xs. refl) c.args.branches.now c.loop-branch.branch-index c.loop-branch.arms (all_made (parts c.args.branches.now))
    c.loop-branch.invariant c.branch-item.result c.loop-branch-test.true c.branch-item.is (sym c.in-None.is ∙ c.in_ok-arm.ensures)

pub returns : goal.returns
returns c =
    let parts : List (Branch) → List (Option (Arm)) = (λ xs. map (made_branch (tree_in c.args.scope.now) (get bytes_eq c.args.scope.now.variables.now)) xs) in
    let part : Branch → Option (Arm) = made_branch (tree_in c.args.scope.now) (get bytes_eq c.args.scope.now.variables.now) in
    all_there parts part (λ x xs. refl) c.args.branches.now c.loop-branch.branch-index c.loop-branch.arms (all_made (parts c.args.branches.now))
    c.loop-branch.invariant refl c.loop-branch-test.false
