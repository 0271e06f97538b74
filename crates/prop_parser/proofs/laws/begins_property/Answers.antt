use Rattle.prop_parser.proofs.BeginLemmas.{property_begun}
use Rattle.prop_parser.proofs.laws.begins_property.Goals as goal

pub returns : goal.returns
returns c tokens = (λ begins. property_begun.back tokens begins, λ begins. property_begun.to tokens begins)
