use Rattle.std.proofs.Common.{◌≡◌, ◌+◌, Bool, true, false, sym, ap, ◌∙◌, refl, arith}
use Rattle.std.specs.Prelude.{None, Some, if◌then◌else◌}
use Rattle.typed_trees.specs.Leaves.{shown}
use Rattle.typed_trees.specs.Scopes.{tree_in}
use Rattle.typecheck.specs.declared.fault.Item.TheVariants as item
use Rattle.typecheck.specs.Items.{command_fits}
use Rattle.typecheck.specs.Sorts.{sort_in}
use Rattle.typecheck.proofs.NumberLemmas.{from_more, from_here}
use Rattle.typecheck.proofs.unfit.unfit_commands.Goals as goal

pub returns-then-not-fits : goal.returns-then-not-fits
returns-then-not-fits c = λ n is.
    let fails : c.in_ok-fits.fits ≡ false = grind (arith, c.if-not-fits.true) in
    let inv = c.loop-command.invariant n is in
    ap (λ k. Some (item.Command k)) inv.0 ∙ sym (from_here n c.args.commands.now c.loop-command.command-index c.command-item.result c.loop-command-test.true c.command-item.is
    (λ z. if command_fits (tree_in c.args.scope.now) (sort_in c.args.scope.now) z.1 then None else Some (item.Command (shown z.0))) inv.1 _
    (ap (λ (b : Bool). if b then None else Some (item.Command (shown (n + c.loop-command.command-index)))) (sym c.in_ok-fits.ensures ∙ fails)))

pub loop-command-init : goal.loop-command-init
loop-command-init c = λ n is. (is ∙ ap shown (let e : n ≡ n + 0 = omega arith in e), refl)

pub loop-command-preserved : goal.loop-command-preserved
loop-command-preserved c = λ n is.
    let holds : c.in_ok-fits.fits ≡ true = grind (arith, c.if-not-fits.false) in
    let inv = c.loop-command.invariant n is in (
      c.next-number.ensures (n + c.loop-command.command-index) inv.0
          ∙ ap shown (let e : n + c.loop-command.command-index + 1 ≡ n + (c.loop-command.command-index + 1) = omega arith in e),
      from_more n c.args.commands.now c.loop-command.command-index c.command-item.result c.loop-command-test.true c.command-item.is
          (λ z. if command_fits (tree_in c.args.scope.now) (sort_in c.args.scope.now) z.1 then None else Some (item.Command (shown z.0))) inv.1
          ∙ ap (λ (b : Bool). if b then None else Some (item.Command (shown (n + c.loop-command.command-index)))) (sym c.in_ok-fits.ensures ∙ holds),
    )
