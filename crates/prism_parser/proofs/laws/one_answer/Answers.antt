use Rattle.prism_syntax.specs.Tokens.{kinds}
use Rattle.prism_syntax.specs.Models.{IsModel}
use Rattle.prism_limits.specs.declared.kinds.TextKind.TheVariants.{Model}
use Rattle.prism_parser.specs.Models.{HasLongModel}
use Rattle.prism_parser.specs.Outcome.{IsNoText}
use Rattle.prism_parser.proofs.OutcomeLemmas.{one_answer}
use Rattle.prism_parser.proofs.ModelLemmas.{model_decided}
use Rattle.prism_parser.proofs.laws.one_answer.Goals as goal

pub returns : goal.returns
returns c tokens = one_answer Model (IsModel (kinds tokens)) HasLongModel (IsNoText IsModel (kinds tokens)) tokens 0 (model_decided (kinds tokens))
