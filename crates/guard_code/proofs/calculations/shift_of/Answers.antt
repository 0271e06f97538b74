-- A chain of two sides.
use Rattle.std.proofs.Common.{get_or}
use Rattle.chain_model.specs.declared.expressions.Op.TheVariants as o
use Rattle.guard_code.proofs.JoinLemmas.{only_one}
use Rattle.guard_code.proofs.SumLemmas.{shifted_sides}
use Rattle.guard_code.proofs.calculations.shift_of.Goals as goal

pub returns-in-Some-shift_of_sides : goal.returns-in-Some-shift_of_sides
returns-in-Some-shift_of_sides c =
    shifted_sides (get_or c.args.ops.now 0 o.Imp) c.args.parts.now c.args.ops.now c.first-item.result c.second-item.result c.in-Some.left c.in-Some-side_of.right
    c.in-Some-shift_of_sides.shift c.shift_node.result
    c.in-len2.len_at_least c.in-len2.len_below (only_one c.args.ops.now o.Imp c.in-len1.len_at_least c.in-len1.len_below) c.first-item.is c.second-item.is
    c.in-Some.ensures c.in-Some-side_of.ensures c.in-Some-shift_of_sides.ensures c.shift_node.ensures
