-- The least or the greatest of whole numbers.
use Rattle.std.proofs.Common.{sym, subst, ◌∙◌}
use Rattle.guard_code.specs.Joins.{IsExtreme, IsRemainder}
use Rattle.guard_code.proofs.NodeLemmas.{value-extreme, value-remainder}
use Rattle.guard_code.proofs.calling.call_by_shape.Goals as goal

pub returns-then-is_extreme_call : goal.returns-then-is_extreme_call
returns-then-is_extreme_call c =
    let extreme : IsExtreme c.args.func c.args.parts = subst (IsExtreme c.args.func) c.as_slice.ensures (c.is_extreme_call.ensures c.if-is_extreme_call.true) in
    λ labels state small. value-extreme labels state c.args.func c.args.parts ∙ sym (extreme.same labels state small)

pub returns-then-is_remainder_call : goal.returns-then-is_remainder_call
returns-then-is_remainder_call c =
    let remainder : IsRemainder c.args.func c.args.parts = subst (IsRemainder c.args.func) c.as_slice-else-is_extreme_call.ensures (c.is_remainder_call.ensures c.if-is_remainder_call.true) in
    λ labels state small. value-remainder labels state c.args.parts ∙ sym (remainder.same labels state small)
