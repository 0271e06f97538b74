-- A chain of one operator that compares two whole numbers.
use Rattle.std.proofs.Common.{refl, sym, ◌∙◌, get_or, arith}
use Rattle.chain_model.specs.declared.expressions.Op.TheVariants as o
use Rattle.guard_code.proofs.KindLemmas.{whole_comparison}
use Rattle.guard_code.proofs.JoinLemmas.{only_one}
use Rattle.guard_code.proofs.joining.comparison_of.Goals as goal

pub returns-then-all_whole : goal.returns-then-all_whole
returns-then-all_whole c = record {
  same = whole_comparison c.args.parts.now c.args.ops.now (get_or c.args.ops.now 0 o.Imp) (omega (arith, c.if-parts-eq2.true))
      (only_one c.args.ops.now o.Imp c.in-len1.len_at_least c.in-len1.len_below) (sym c.is_comparison.ensures ∙ c.if-is_comparison.true) (c.if-all_whole.ensures refl);
}
