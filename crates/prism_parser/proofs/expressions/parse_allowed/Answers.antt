use Rattle.prism_syntax.specs.Tokens.{kinds}
use Rattle.prism_limits.specs.declared.kinds.TextKind.TheVariants.{Property}
use Rattle.prism_parser.specs.Expressions.{FindsExpression, HasLong, BeginsNoExpression}
use Rattle.prism_parser.proofs.StepLemmas.{told_chains}
use Rattle.prism_parser.proofs.ExpressionLemmas.{told_expression, told_long, told_short}
use Rattle.prism_parser.proofs.expressions.parse_allowed.Goals as goal

pub returns-in-Ok-refuse_chains : goal.returns-in-Ok-refuse_chains
returns-in-Ok-refuse_chains c =
    let told = told_expression c.args.tokens.now c.split_at.result.1.now c.split_at-in-Ok.result.0.now c.in-Ok.longest.rest.now c.args.start c.in-Ok.longest.left c.in-Ok.longest.tree c.split_at.ensures.back c.in-Ok.ensures c.split_at-in-Ok.ensures.front in
    record { allowed = c.requires.allowed; found = told.found; short = told_short told c.in-Ok-refuse_chains.ensures }

pub returns-in-Err : goal.returns-in-Err
returns-in-Err c =
    let told = told_expression c.args.tokens.now c.split_at.result.1.now c.split_at-in-Ok.result.0.now c.in-Ok.longest.rest.now c.args.start c.in-Ok.longest.left c.in-Ok.longest.tree c.split_at.ensures.back c.in-Ok.ensures c.split_at-in-Ok.ensures.front in
    told_chains Property (FindsExpression c.args.tokens.now c.args.start) HasLong (BeginsNoExpression c.args.tokens.now c.args.start) c.args.tokens.now c.args.start c.in-Err.fault _ (kinds c.split_at-in-Ok.result.0.now) told.rest
    c.requires.allowed told.found told.cut (told_long told) c.in-Err.ensures
