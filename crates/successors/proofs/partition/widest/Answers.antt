-- One action more.
use Rattle.std.proofs.Common.{◌≤◌, max, List, ℕ, length, subst, ap, ◌∙◌, arith}
use Rattle.std.specs.Prelude.{All}
use Rattle.std.proofs.lemmas.List.{take_all}
use Rattle.successors.proofs.PartitionLemmas.{wider}
use Rattle.successors.proofs.partition.widest.Goals as goal

pub loop-lists-preserved : goal.loop-lists-preserved
loop-lists-preserved c = record {
  all = wider c.args.actions.now c.loop-lists.lists-index c.loop-lists.width c.max-width.result c.lists-item.result c.loop-lists-test.true c.lists-item.is
      (c.max-width.ensures ∙ ap (λ n. max n c.loop-lists.width) c.len.ensures) c.loop-lists.invariant.all;
  some = omega (arith, c.max-width.ensures, c.loop-lists.invariant.some);
}

pub returns-clause-all : goal.returns-clause-all
returns-clause-all c =
    subst (λ (ls : List (List (List ℕ))). All (λ lists. length lists ≤ c.loop-lists.width) ls)
    (take_all c.loop-lists.lists-index c.args.actions.now c.loop-lists-test.false) c.loop-lists.invariant.all
