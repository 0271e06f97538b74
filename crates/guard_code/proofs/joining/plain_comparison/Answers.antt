-- A comparison of two sides.
use Rattle.guard_code.proofs.JoinLemmas.{compared_sides}
use Rattle.guard_code.proofs.joining.plain_comparison.Goals as goal

pub returns-in-Some-side_of : goal.returns-in-Some-side_of
returns-in-Some-side_of c =
    compared_sides c.args.op c.args.parts.now c.first-item.result c.second-item.result c.in-Some.left c.in-Some-side_of.right c.test_of.result
    c.in-len2.len_at_least c.in-len2.len_below c.first-item.is c.second-item.is c.in-Some.ensures c.in-Some-side_of.ensures c.test_of.ensures
