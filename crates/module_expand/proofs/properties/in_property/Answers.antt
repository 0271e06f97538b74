use Rattle.std.proofs.Common.{◌≡◌, sym, subst}
use Rattle.std.proofs.lemmas.Result.{IfOk-weaker}
use Rattle.prism_syntax.specs.WellFormed.{IsFormedProperty, IsFormedFlat}
use Rattle.module_expand.specs.Expanded.{stands_for}
use Rattle.module_expand.specs.Properties.{flat_property}
use Rattle.module_expand.proofs.PropertyLemmas.{property_formed}
use Rattle.module_expand.proofs.properties.in_property.Goals as goal

pub returns-else-is_too_large-clause-formed : goal.returns-else-is_too_large-clause-formed
returns-else-is_too_large-clause-formed c =
    let flat = c.args.flat.now in
    let property = c.args.property.now in
    IfOk-weaker c.property_with.result (λ p. p ≡ flat_property (stands_for c.as_slice-formulas.result.now) property)
    (λ p. IsFormedFlat flat → IsFormedProperty property → IsFormedProperty p)
    (λ p is formed h. subst IsFormedProperty (sym (subst (λ fs. p ≡ flat_property (stands_for fs) property)
    c.as_slice-formulas.ensures is)) (property_formed flat.formulas formed.formulas property h))
    c.property_with.ensures.replaced
