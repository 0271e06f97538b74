-- A chain of one operator that divides a whole number by another.
use Rattle.std.proofs.Common.{get_or, arith}
use Rattle.chain_model.specs.declared.expressions.Op.TheVariants as o
use Rattle.guard_code.proofs.KindLemmas.{whole_quotient}
use Rattle.guard_code.proofs.JoinLemmas.{only_one}
use Rattle.guard_code.proofs.joining.is_quotient.Goals as goal

pub returns-in-Div : goal.returns-in-Div
returns-in-Div c = λ whole. record {
  same = whole_quotient c.args.parts.now c.args.ops.now (get_or c.args.ops.now 0 o.Imp) (omega (arith, c.if-parts-ne2.false))
      (only_one c.args.ops.now o.Imp c.in-len1.len_at_least c.in-len1.len_below) c.in-Div.is (c.all_whole.ensures whole);
}
