-- A call of literals is a literal.
use Rattle.std.proofs.Common.{subst}
use Rattle.guard_code.specs.Joins.{CallsTo}
use Rattle.guard_code.proofs.JoinLemmas.{calls_literal}
use Rattle.guard_code.proofs.calling.call_node.Goals as goal

pub returns-in-Some : goal.returns-in-Some
returns-in-Some c = λ labels state small.
    calls_literal c.in-Some.value c.args.func c.args.parts labels state (subst (CallsTo c.in-Some.value c.args.func) c.as_slice.ensures c.in-Some.ensures)
