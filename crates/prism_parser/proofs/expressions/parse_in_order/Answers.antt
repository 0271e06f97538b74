use Rattle.prism_limits.specs.declared.kinds.TextKind.TheVariants.{Property}
use Rattle.prism_parser.specs.Expressions.{FindsExpression, HasLong, BeginsNoExpression}
use Rattle.prism_parser.proofs.StepLemmas.{told_allowed}
use Rattle.prism_parser.proofs.expressions.parse_in_order.Goals as goal

pub returns-in-Err : goal.returns-in-Err
returns-in-Err c =
    told_allowed Property (FindsExpression c.args.tokens.now c.args.start) HasLong (BeginsNoExpression c.args.tokens.now c.args.start) c.args.tokens.now c.args.start c.in-Err.fault c.in-Err.ensures
