use Rattle.std.proofs.Common.{◌+◌, ◌∷◌, Option, length, drop, sym, ap, ◌∙◌, refl}
use Rattle.std.specs.Option.{option_or}
use Rattle.std.proofs.lemmas.List.{drop_more}
use Rattle.typed_trees.specs.Leaves.{shown}
use Rattle.typed_trees.specs.Scopes.{tree_in}
use Rattle.typecheck.specs.declared.fault.Item.{Item}
use Rattle.typecheck.specs.Declarations.{variables_of, commands_of}
use Rattle.typecheck.specs.Items.{unfit_in_modules}
use Rattle.typecheck.specs.Sorts.{sort_in}
use Rattle.typecheck.proofs.unfit_model.unfit_in_modules.Goals as goal

pub loop-item-init : goal.loop-item-init
loop-item-init c = (c.args.before, (0, (c.shown-variables.ensures, (refl, refl))))

pub returns-in-Some : goal.returns-in-Some
returns-in-Some c =
    let n = c.loop-item.invariant.0 in
    let m = c.loop-item.invariant.1.0 in
    let inv = c.loop-item.invariant.1.1 in
    let one = drop_more c.args.modules.now c.loop-item.item-index c.item-item.result c.loop-item-test.true
    ∙ ap (λ z. z ∷ drop (c.loop-item.item-index + 1) c.args.modules.now) (sym c.item-item.is) in
    sym (inv.1.1 ∙ (ap (unfit_in_modules (tree_in c.args.constants.now) (tree_in c.args.scope.now) (sort_in c.args.scope.now) n m) one
    ∙ ap (λ (o : Option Item). option_or o (unfit_in_modules (tree_in c.args.constants.now) (tree_in c.args.scope.now) (sort_in c.args.scope.now)
    (n + length (variables_of c.item-item.result)) (m + length (commands_of c.item-item.result)) (drop (c.loop-item.item-index + 1) c.args.modules.now)))
    (sym (c.in_ok-found.ensures n m inv.0 inv.1.0) ∙ c.in-Some.is)))

pub loop-item-preserved : goal.loop-item-preserved
loop-item-preserved c =
    let n = c.loop-item.invariant.0 in
    let m = c.loop-item.invariant.1.0 in
    let inv = c.loop-item.invariant.1.1 in
    let one = drop_more c.args.modules.now c.loop-item.item-index c.item-item.result c.loop-item-test.true
    ∙ ap (λ z. z ∷ drop (c.loop-item.item-index + 1) c.args.modules.now) (sym c.item-item.is) in (
      n + length (variables_of c.item-item.result),
      (
        m + length (commands_of c.item-item.result),
        (
          c.later-variables.ensures n inv.0 ∙ ap (λ k. shown (n + k)) (ap length c.variables_of.ensures),
          (
            c.later-commands.ensures m inv.1.0 ∙ ap (λ k. shown (m + k)) (ap length c.commands_of.ensures),
            inv.1.1 ∙ (ap (unfit_in_modules (tree_in c.args.constants.now) (tree_in c.args.scope.now) (sort_in c.args.scope.now) n m) one
                ∙ ap (λ (o : Option Item). option_or o (unfit_in_modules (tree_in c.args.constants.now) (tree_in c.args.scope.now) (sort_in c.args.scope.now)
                (n + length (variables_of c.item-item.result)) (m + length (commands_of c.item-item.result)) (drop (c.loop-item.item-index + 1) c.args.modules.now)))
                (sym (c.in_ok-found.ensures n m inv.0 inv.1.0) ∙ c.in-None.is)),
          ),
        ),
      ),
    )
