use Rattle.prism_syntax.specs.Tokens.{kinds}
use Rattle.prism_syntax.specs.Models.{IsModel}
use Rattle.prism_limits.specs.declared.kinds.TextKind.TheVariants.{Model}
use Rattle.prism_parser.specs.Models.{HasLongModel}
use Rattle.prism_parser.specs.Outcome.{IsNoText}
use Rattle.prism_parser.proofs.StepLemmas.{told_allowed}
use Rattle.prism_parser.proofs.models.parse_in_order.Goals as goal

pub returns-in-Err : goal.returns-in-Err
returns-in-Err c = told_allowed Model (IsModel (kinds c.args.tokens.now)) HasLongModel (IsNoText IsModel (kinds c.args.tokens.now)) c.args.tokens.now 0 c.in-Err.fault c.in-Err.ensures
