use Rattle.std.proofs.Common.{◌≡◌, sym, ◌∙◌, true, false, arith}
use Rattle.typed_trees.specs.Scopes.{tree_in}
use Rattle.typecheck.specs.Items.{assignment_fits}
use Rattle.typecheck.specs.Sorts.{sort_in}
use Rattle.typecheck.proofs.FitLemmas.{fits_more, fails_here}
use Rattle.typecheck.proofs.fitting.assignments_fit.Goals as goal

pub returns-then-not-fits : goal.returns-then-not-fits
returns-then-not-fits c =
    let fails : c.in_ok-fits.fits ≡ false = grind (arith, c.if-not-fits.true) in
    sym (fails_here c.args.sets.now c.loop-set.set-index c.set-item.result c.loop-set-test.true c.set-item.is
    (assignment_fits (tree_in c.args.scope.now) (sort_in c.args.scope.now)) c.loop-set.invariant (sym c.in_ok-fits.ensures ∙ fails))

pub loop-set-preserved : goal.loop-set-preserved
loop-set-preserved c =
    let holds : c.in_ok-fits.fits ≡ true = grind (arith, c.if-not-fits.false) in
    fits_more c.args.sets.now c.loop-set.set-index c.set-item.result c.loop-set-test.true c.set-item.is
    (assignment_fits (tree_in c.args.scope.now) (sort_in c.args.scope.now)) c.loop-set.invariant ∙ (sym c.in_ok-fits.ensures ∙ holds)
