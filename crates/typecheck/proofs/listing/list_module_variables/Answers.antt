use Rattle.std.proofs.Common.{◌++◌, ℕ, Option, map, ap, ◌∙◌}
use Rattle.std.specs.Prelude.{Some}
use Rattle.typecheck.specs.Declarations.{variables_of}
use Rattle.typecheck.proofs.ListingLemmas.{appended, listed_more}
use Rattle.prism_syntax.specs.declared.models.Variable.{Variable}
use Rattle.typecheck.proofs.listing.list_module_variables.Goals as goal

pub loop-number-preserved : goal.loop-number-preserved
loop-number-preserved c =
    appended _ _ _ _ _ _ c.loop-number.invariant
    (c.in_ok-list_variables.ensures ∙ ap (λ z. map {B = Option ℕ × Variable} (λ v. (v.0, v.1.now)) c.loop-number.list.items ++ map {B = Option ℕ × Variable} (λ v. (Some c.loop-number.number, v)) z) c.variables_of.ensures)
    (listed_more c.args.modules.now c.loop-number.number c.index-modules-number.result c.loop-number-test.true c.index-modules-number.is
    (λ m. map {B = Option ℕ × Variable} (λ v. (Some m.0, v)) (variables_of m.1)))
