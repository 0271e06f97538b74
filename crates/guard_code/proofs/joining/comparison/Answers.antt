-- A comparison that is a plain test.
use Rattle.std.proofs.Common.{subst}
use Rattle.guard_code.specs.Joins.{IsTestOf}
use Rattle.guard_code.proofs.JoinLemmas.{is_comparison_test}
use Rattle.guard_code.proofs.joining.comparison.Goals as goal

pub returns-in-Some : goal.returns-in-Some
returns-in-Some c = is_comparison_test c.in-Some.test c.args.op c.args.parts (subst (IsTestOf c.in-Some.test c.args.op) c.as_slice.ensures c.in-Some.ensures)
