use Rattle.prism_syntax.specs.Tokens.{kinds}
use Rattle.prism_syntax.specs.Properties.{IsProperty}
use Rattle.prism_limits.specs.declared.kinds.TextKind.TheVariants.{Property as ForProperty}
use Rattle.prism_parser.specs.Outcome.{IsNoText}
use Rattle.prop_parser.specs.Properties.{HasLongProperty}
use Rattle.prism_parser.proofs.StepLemmas.{told_allowed}
use Rattle.prop_parser.proofs.properties.parse_in_order.Goals as goal

pub returns-in-Err : goal.returns-in-Err
returns-in-Err c = told_allowed ForProperty (IsProperty (kinds c.args.tokens.now)) HasLongProperty (IsNoText IsProperty (kinds c.args.tokens.now)) c.args.tokens.now 0 c.in-Err.fault c.in-Err.ensures
