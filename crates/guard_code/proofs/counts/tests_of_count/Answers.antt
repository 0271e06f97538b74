-- A sum of few parts that each count a test.
use Rattle.std.proofs.Common.{sym, ◌∙◌}
use Rattle.guard_code.proofs.CountLemmas.{count_of_ok}
use Rattle.guard_code.proofs.counts.tests_of_count.Goals as goal

pub returns : goal.returns
returns c =
    count_of_ok c.counted_tests.result c.args.parts.now c.args.ops.now c.if-parts-ops.false c.if-parts-gt-MOST_PARTS.false
    (sym c.all_sums.ensures ∙ c.if-not-all_sums.false) c.counted_tests.ensures
