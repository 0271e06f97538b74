use Rattle.prism_limits.specs.declared.kinds.TextKind.TheVariants.{Property}
use Rattle.prism_parser.specs.Expressions.{FindsExpression, HasLong, BeginsNoExpression}
use Rattle.prism_parser.proofs.OutcomeLemmas.{says_ok, says_unsupported, says_too_deep, says_not_in_grammar}
use Rattle.prism_parser.proofs.ExpressionLemmas.{expression_decided, told_formed}
use Rattle.prism_parser.proofs.expressions.expression.Goals as goal

pub returns-clause-ok : goal.returns-clause-ok
returns-clause-ok c = λ tree next.
    says_ok Property (FindsExpression c.args.tokens.now c.args.at) HasLong (BeginsNoExpression c.args.tokens.now c.args.at) c.args.tokens.now c.args.at c.parse_in_order.result (tree, next)
    (expression_decided c.args.tokens.now c.args.at) c.parse_in_order.ensures

pub returns-clause-unsupported : goal.returns-clause-unsupported
returns-clause-unsupported c = λ word at.
    says_unsupported Property (FindsExpression c.args.tokens.now c.args.at) HasLong (BeginsNoExpression c.args.tokens.now c.args.at) c.args.tokens.now c.args.at c.parse_in_order.result word at
    (expression_decided c.args.tokens.now c.args.at) c.parse_in_order.ensures

pub returns-clause-too_deep : goal.returns-clause-too_deep
returns-clause-too_deep c = λ at.
    says_too_deep Property (FindsExpression c.args.tokens.now c.args.at) HasLong (BeginsNoExpression c.args.tokens.now c.args.at) c.args.tokens.now c.args.at c.parse_in_order.result at c.parse_in_order.ensures

pub returns-clause-not_in_grammar : goal.returns-clause-not_in_grammar
returns-clause-not_in_grammar c = λ at.
    says_not_in_grammar Property (FindsExpression c.args.tokens.now c.args.at) HasLong (BeginsNoExpression c.args.tokens.now c.args.at) c.args.tokens.now c.args.at c.parse_in_order.result at
    (expression_decided c.args.tokens.now c.args.at) c.parse_in_order.ensures

pub returns-clause-formed : goal.returns-clause-formed
returns-clause-formed c = λ formed. told_formed c.args.tokens.now c.args.at c.parse_in_order.result c.parse_in_order.ensures formed
