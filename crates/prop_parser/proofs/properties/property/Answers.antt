use Rattle.prism_syntax.specs.Tokens.{kinds}
use Rattle.prism_syntax.specs.Properties.{IsProperty}
use Rattle.prism_limits.specs.declared.kinds.TextKind.TheVariants.{Property as ForProperty}
use Rattle.prism_parser.specs.Outcome.{IsNoText}
use Rattle.prop_parser.specs.Properties.{HasLongProperty}
use Rattle.prism_parser.proofs.OutcomeLemmas.{says_ok, says_unsupported, says_too_deep, says_not_in_grammar}
use Rattle.prop_parser.proofs.WholeLemmas.{property_decided}
use Rattle.prop_parser.proofs.FormedLemmas.{told_formed}
use Rattle.prop_parser.proofs.properties.property.Goals as goal

pub returns-clause-ok : goal.returns-clause-ok
returns-clause-ok c = λ tree. says_ok ForProperty (IsProperty (kinds c.args.tokens.now)) HasLongProperty (IsNoText IsProperty (kinds c.args.tokens.now)) c.args.tokens.now 0 c.parse_in_order.result tree (property_decided (kinds c.args.tokens.now)) c.parse_in_order.ensures

pub returns-clause-unsupported : goal.returns-clause-unsupported
returns-clause-unsupported c = λ word at. says_unsupported ForProperty (IsProperty (kinds c.args.tokens.now)) HasLongProperty (IsNoText IsProperty (kinds c.args.tokens.now)) c.args.tokens.now 0 c.parse_in_order.result word at (property_decided (kinds c.args.tokens.now)) c.parse_in_order.ensures

pub returns-clause-too_deep : goal.returns-clause-too_deep
returns-clause-too_deep c = λ at. says_too_deep ForProperty (IsProperty (kinds c.args.tokens.now)) HasLongProperty (IsNoText IsProperty (kinds c.args.tokens.now)) c.args.tokens.now 0 c.parse_in_order.result at c.parse_in_order.ensures

pub returns-clause-not_in_grammar : goal.returns-clause-not_in_grammar
returns-clause-not_in_grammar c = λ at. says_not_in_grammar ForProperty (IsProperty (kinds c.args.tokens.now)) HasLongProperty (IsNoText IsProperty (kinds c.args.tokens.now)) c.args.tokens.now 0 c.parse_in_order.result at (property_decided (kinds c.args.tokens.now)) c.parse_in_order.ensures

pub returns-clause-formed : goal.returns-clause-formed
returns-clause-formed c = λ formed. told_formed c.args.tokens.now c.parse_in_order.result c.parse_in_order.ensures formed
