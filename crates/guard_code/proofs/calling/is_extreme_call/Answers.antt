-- A call of whole numbers.
use Rattle.std.proofs.Common.{sym, ◌∙◌, arith}
use Rattle.guard_code.proofs.KindLemmas.{whole_call}
use Rattle.guard_code.proofs.calling.is_extreme_call.Goals as goal

pub returns : goal.returns
returns c = λ whole. record {
  same = whole_call c.args.func c.args.parts.now (omega (arith, c.if-parts-eq0.false)) (sym c.is_extreme.ensures ∙ c.if-not-is_extreme.false) (c.all_whole.ensures whole);
}
