use Rattle.prism_limits.proofs.NestingLemmas.{plain, sees_plain}
use Rattle.prism_limits.proofs.nesting.step.Goals as goal

pub returns-in_default : goal.returns-in_default
returns-in_default c =
    let other = c.in_default in
    let token = c.args.kind.now in
    λ before sees. sees_plain c.args.counts before token (plain token other.not-Open other.not-Close other.not-OpenBracket other.not-CloseBracket other.not-Bang other.not-Dash other.not-Query other.not-Semicolon) sees
