use Rattle.std.proofs.Common.{List, Option, ◌∙◌, sym, refl, map}
use Rattle.chain_model.specs.declared.expressions.Typed.{Typed}
use Rattle.prism_syntax.specs.declared.models.Named.{Named}
use Rattle.prism_names.specs.First.{Name}
use Rattle.typed_trees.specs.Scopes.{tree_in}
use Rattle.typecheck.specs.Parts.{all_made, made_label}
use Rattle.typecheck.proofs.MakingLemmas.{one_made, one_missing, all_there}
use Rattle.typecheck.proofs.labels.made_labels.Goals as goal

pub loop-label-preserved : goal.loop-label-preserved
loop-label-preserved c =
    let parts : List (Named) → List (Option (Name × Typed)) = (λ xs. map (made_label (tree_in c.args.scope.now)) xs) in
    let part : Named → Option (Name × Typed) = made_label (tree_in c.args.scope.now) in
    one_made parts part (λ x xs. refl) c.args.labels.now c.loop-label.label-index c.loop-label.made (all_made (parts c.args.labels.now))
    c.loop-label.invariant c.label-item.result c.push.new.self c.in-Some.one c.loop-label-test.true c.label-item.is
    (sym c.in-Some.is ∙ c.in_ok-one.ensures) c.in_ok-push-in-Some.ensures.ok

pub returns-in-None : goal.returns-in-None
returns-in-None c =
    let parts : List (Named) → List (Option (Name × Typed)) = (λ xs. map (made_label (tree_in c.args.scope.now)) xs) in
    let part : Named → Option (Name × Typed) = made_label (tree_in c.args.scope.now) in
    one_missing parts part (λ x xs. refl) c.args.labels.now c.loop-label.label-index c.loop-label.made (all_made (parts c.args.labels.now))
    c.loop-label.invariant c.label-item.result c.loop-label-test.true c.label-item.is (sym c.in-None.is ∙ c.in_ok-one.ensures)

pub returns : goal.returns
returns c =
    let parts : List (Named) → List (Option (Name × Typed)) = (λ xs. map (made_label (tree_in c.args.scope.now)) xs) in
    let part : Named → Option (Name × Typed) = made_label (tree_in c.args.scope.now) in
    all_there parts part (λ x xs. refl) c.args.labels.now c.loop-label.label-index c.loop-label.made (all_made (parts c.args.labels.now))
    c.loop-label.invariant refl c.loop-label-test.false
