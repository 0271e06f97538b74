use Rattle.std.proofs.Common.{◌≡◌, ◌+◌, Bool, true, false, sym, ap, ◌∙◌, refl, arith}
use Rattle.std.specs.Prelude.{None, Some, if◌then◌else◌}
use Rattle.typed_trees.specs.Leaves.{shown}
use Rattle.typed_trees.specs.Scopes.{tree_in}
use Rattle.typecheck.specs.declared.fault.Item.TheVariants as item
use Rattle.typecheck.specs.Items.{variable_fits}
use Rattle.typecheck.proofs.NumberLemmas.{from_more, from_here}
use Rattle.typecheck.proofs.unfit.unfit_variables.Goals as goal

pub returns-then-not-fits : goal.returns-then-not-fits
returns-then-not-fits c = λ n is.
    let fails : c.in_ok-fits.fits ≡ false = grind (arith, c.if-not-fits.true) in
    let inv = c.loop-variable.invariant n is in
    ap (λ k. Some (item.Variable k)) inv.0 ∙ sym (from_here n c.args.variables.now c.loop-variable.variable-index c.variable-item.result c.loop-variable-test.true c.variable-item.is
    (λ z. if variable_fits (tree_in c.args.constants.now) z.1 then None else Some (item.Variable (shown z.0))) inv.1 _
    (ap (λ (b : Bool). if b then None else Some (item.Variable (shown (n + c.loop-variable.variable-index)))) (sym c.in_ok-fits.ensures ∙ fails)))

pub loop-variable-init : goal.loop-variable-init
loop-variable-init c = λ n is. (is ∙ ap shown (let e : n ≡ n + 0 = omega arith in e), refl)

pub loop-variable-preserved : goal.loop-variable-preserved
loop-variable-preserved c = λ n is.
    let holds : c.in_ok-fits.fits ≡ true = grind (arith, c.if-not-fits.false) in
    let inv = c.loop-variable.invariant n is in (
      c.next-number.ensures (n + c.loop-variable.variable-index) inv.0
          ∙ ap shown (let e : n + c.loop-variable.variable-index + 1 ≡ n + (c.loop-variable.variable-index + 1) = omega arith in e),
      from_more n c.args.variables.now c.loop-variable.variable-index c.variable-item.result c.loop-variable-test.true c.variable-item.is
          (λ z. if variable_fits (tree_in c.args.constants.now) z.1 then None else Some (item.Variable (shown z.0))) inv.1
          ∙ ap (λ (b : Bool). if b then None else Some (item.Variable (shown (n + c.loop-variable.variable-index)))) (sym c.in_ok-fits.ensures ∙ holds),
    )
