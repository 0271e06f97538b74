use Rattle.std.proofs.Common.{◌≡◌, ◌+◌, Bool, true, false, sym, ap, ◌∙◌, arith}
use Rattle.std.specs.Prelude.{None, Some, if◌then◌else◌}
use Rattle.chain_model.specs.declared.values.Sort.TheVariants as sort
use Rattle.typed_trees.specs.Leaves.{shown}
use Rattle.typed_trees.specs.Scopes.{tree_in}
use Rattle.typecheck.specs.declared.fault.Item.TheVariants as item
use Rattle.typecheck.specs.Items.{is_tree_of}
use Rattle.typecheck.proofs.NumberLemmas.{from_more, from_here}
use Rattle.typecheck.proofs.unfit.unfit_labels.Goals as goal

pub returns-then-not-fits : goal.returns-then-not-fits
returns-then-not-fits c =
    let fails : c.in_ok-fits.fits ≡ false = grind (arith, c.if-not-fits.true) in
    ap (λ k. Some (item.Label k)) (c.shown.ensures ∙ ap shown (let e : c.loop-number.number ≡ 0 + c.loop-number.number = omega arith in e)) ∙ sym (from_here 0 c.args.labels.now c.loop-number.number c.index-labels-number.result c.loop-number-test.true c.index-labels-number.is
    (λ z. if is_tree_of sort.Bool (tree_in c.args.scope.now z.1.body) then None else Some (item.Label (shown z.0))) c.loop-number.invariant _
    (ap (λ (b : Bool). if b then None else Some (item.Label (shown (0 + c.loop-number.number)))) (sym c.in_ok-fits.ensures ∙ fails)))

pub loop-number-preserved : goal.loop-number-preserved
loop-number-preserved c =
    let holds : c.in_ok-fits.fits ≡ true = grind (arith, c.if-not-fits.false) in
    from_more 0 c.args.labels.now c.loop-number.number c.index-labels-number.result c.loop-number-test.true c.index-labels-number.is
    (λ z. if is_tree_of sort.Bool (tree_in c.args.scope.now z.1.body) then None else Some (item.Label (shown z.0))) c.loop-number.invariant
    ∙ ap (λ (b : Bool). if b then None else Some (item.Label (shown (0 + c.loop-number.number)))) (sym c.in_ok-fits.ensures ∙ holds)
