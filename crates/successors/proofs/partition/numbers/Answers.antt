-- One number more.
use Rattle.std.proofs.Common.{◌++◌, ◌∷◌, [], sym, ap, ◌∙◌}
use Rattle.successors.proofs.PartitionLemmas.{range_more}
use Rattle.successors.proofs.partition.numbers.Goals as goal

pub loop-number-preserved : goal.loop-number-preserved
loop-number-preserved c =
    c.in_ok-push.ensures.ok ∙ ap (λ ls. ls ++ (c.loop-number.number ∷ [])) c.loop-number.invariant ∙ sym (range_more c.loop-number.number)
