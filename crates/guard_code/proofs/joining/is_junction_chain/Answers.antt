-- A chain of truth values.
use Rattle.std.proofs.Common.{sym, ◌∙◌, arith}
use Rattle.std.proofs.lemmas.Bool.{eqb-true}
use Rattle.guard_code.proofs.KindLemmas.{truth_chain}
use Rattle.guard_code.proofs.joining.is_junction_chain.Goals as goal
use Rattle.guard_code.proofs.joining.is_junction_chain.Goals.{then-parts-ops, else-parts-ops}

pub returns-then-all_junction : goal.returns-then-all_junction
returns-then-all_junction c = λ truth.
    elim c.if-parts-ops.branch [
      | then-parts-ops w ↦ record {
        same = truth_chain c.args.deciding c.args.parts.now c.args.ops.now (omega (arith, w.if-parts-ops.true)) w.if-parts-ops.true
            (sym w.all_junction.ensures ∙ sym w.value-is ∙ c.if-all_junction.true) (c.all_truth.ensures truth);
      }
      | else-parts-ops w ↦ absurd (w.if-parts-ops.false (eqb-true _ _ (sym w.value-is ∙ c.if-all_junction.true)))
    ]
