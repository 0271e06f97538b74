use Rattle.std.proofs.Common.{ap, ◌∙◌}
use Rattle.module_expand.specs.Properties.{flat_property}
use Rattle.module_expand.proofs.properties.property_with.Goals as goal

pub returns-in-Ok-replace_in_property-clause-replaced : goal.returns-in-Ok-replace_in_property-clause-replaced
returns-in-Ok-replace_in_property-clause-replaced c =
    c.in-Ok-replace_in_property.ensures
    ∙ ap (λ by. flat_property by c.args.property.now) (λ i n. c.in-Ok.ensures n i)
