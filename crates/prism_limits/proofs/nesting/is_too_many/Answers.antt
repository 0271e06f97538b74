use Rattle.prism_limits.proofs.NestingLemmas.{at_open, at_bang, at_dash, at_query, at_bracket, at_other}
use Rattle.prism_limits.proofs.nesting.is_too_many.Goals as goal

pub returns-in-Open : goal.returns-in-Open
returns-in-Open c = λ before sees. rw c.in-Open.is (at_open c.args.text c.args.counts c.saturating_sub.result before c.saturating_sub.ensures sees)

pub returns-in-Bang : goal.returns-in-Bang
returns-in-Bang c = λ before sees. rw c.in-Bang.is (at_bang c.args.text c.args.counts before sees)

pub returns-in-Dash : goal.returns-in-Dash
returns-in-Dash c = λ before sees. rw c.in-Dash.is (at_dash c.args.text c.args.counts before sees)

pub returns-in-Query : goal.returns-in-Query
returns-in-Query c = λ before sees. rw c.in-Query.is (at_query c.args.text c.args.counts before sees)

pub returns-in-OpenBracket : goal.returns-in-OpenBracket
returns-in-OpenBracket c = λ before sees. rw c.in-OpenBracket.is (at_bracket c.args.text c.args.counts _ before c.are_brackets_full.ensures sees)

pub returns-in_default : goal.returns-in_default
returns-in_default c = λ before sees. at_other c.args.text before c.args.kind.now c.in_default.not-Open c.in_default.not-Bang c.in_default.not-Dash c.in_default.not-Query c.in_default.not-OpenBracket
