use Rattle.prism_syntax.specs.Tokens.{kinds}
use Rattle.prism_syntax.specs.Models.{IsModel}
use Rattle.prism_limits.specs.declared.kinds.TextKind.TheVariants.{Model}
use Rattle.prism_parser.specs.Models.{HasLongModel}
use Rattle.prism_parser.specs.Outcome.{IsNoText}
use Rattle.prism_parser.proofs.OutcomeLemmas.{says_ok, says_unsupported, says_too_deep, says_not_in_grammar}
use Rattle.prism_parser.proofs.ModelLemmas.{model_decided, told_model}
use Rattle.prism_parser.proofs.models.model.Goals as goal

pub returns-clause-ok : goal.returns-clause-ok
returns-clause-ok c = λ tree. says_ok Model (IsModel (kinds c.args.tokens.now)) HasLongModel (IsNoText IsModel (kinds c.args.tokens.now)) c.args.tokens.now 0 c.parse_in_order.result tree (model_decided (kinds c.args.tokens.now)) c.parse_in_order.ensures

pub returns-clause-unsupported : goal.returns-clause-unsupported
returns-clause-unsupported c = λ word at. says_unsupported Model (IsModel (kinds c.args.tokens.now)) HasLongModel (IsNoText IsModel (kinds c.args.tokens.now)) c.args.tokens.now 0 c.parse_in_order.result word at (model_decided (kinds c.args.tokens.now)) c.parse_in_order.ensures

pub returns-clause-too_deep : goal.returns-clause-too_deep
returns-clause-too_deep c = λ at. says_too_deep Model (IsModel (kinds c.args.tokens.now)) HasLongModel (IsNoText IsModel (kinds c.args.tokens.now)) c.args.tokens.now 0 c.parse_in_order.result at c.parse_in_order.ensures

pub returns-clause-not_in_grammar : goal.returns-clause-not_in_grammar
returns-clause-not_in_grammar c = λ at. says_not_in_grammar Model (IsModel (kinds c.args.tokens.now)) HasLongModel (IsNoText IsModel (kinds c.args.tokens.now)) c.args.tokens.now 0 c.parse_in_order.result at (model_decided (kinds c.args.tokens.now)) c.parse_in_order.ensures

pub returns-clause-formed : goal.returns-clause-formed
returns-clause-formed c = λ formed. told_model c.args.tokens.now c.parse_in_order.result c.parse_in_order.ensures formed
