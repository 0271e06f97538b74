use Rattle.prism_syntax.specs.Tokens.{kinds}
use Rattle.prism_syntax.specs.Properties.{IsProperty}
use Rattle.prism_limits.specs.declared.kinds.TextKind.TheVariants.{Property as ForProperty}
use Rattle.prism_parser.specs.Outcome.{IsNoText}
use Rattle.prism_parser.proofs.OutcomeLemmas.{one_answer}
use Rattle.prop_parser.specs.Properties.{HasLongProperty}
use Rattle.prop_parser.proofs.WholeLemmas.{property_decided}
use Rattle.prop_parser.proofs.laws.one_answer.Goals as goal

pub returns : goal.returns
returns c tokens = one_answer ForProperty (IsProperty (kinds tokens)) HasLongProperty (IsNoText IsProperty (kinds tokens)) tokens 0 (property_decided (kinds tokens))
