use Rattle.prop_parser.proofs.ArrowLineLemmas.{later_property, property_later}
use Rattle.prop_parser.proofs.laws.property_arrow_law.Goals as goal

pub returns : goal.returns
returns c tokens tree text = (λ long. property_later text long, λ later. later_property text later.1)
