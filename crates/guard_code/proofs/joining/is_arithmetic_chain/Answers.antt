-- A chain of whole numbers.
use Rattle.std.proofs.Common.{sym, ◌∙◌}
use Rattle.guard_code.proofs.JoinLemmas.{none_at_least}
use Rattle.guard_code.proofs.KindLemmas.{whole_chain}
use Rattle.guard_code.proofs.joining.is_arithmetic_chain.Goals as goal
use Rattle.guard_code.proofs.joining.is_arithmetic_chain.Goals.{then-parts-ge1, else-parts-ge1}

pub returns-then-all_arithmetic : goal.returns-then-all_arithmetic
returns-then-all_arithmetic c = λ whole.
    elim c.if-parts-ge1.branch [
      | then-parts-ge1 w ↦ record {
        same = whole_chain c.args.parts.now c.args.ops.now w.if-parts-ge1.true (sym w.all_arithmetic.ensures ∙ sym w.value-is ∙ c.if-all_arithmetic.true)
            (c.all_whole.ensures whole);
      }
      | else-parts-ge1 w ↦ absurd (none_at_least _ w.if-parts-ge1.false (sym w.value-is ∙ c.if-all_arithmetic.true))
    ]
