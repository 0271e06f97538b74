use Rattle.const_eval.specs.Tables.{sort_of_word}
use Rattle.const_eval.proofs.ListingLemmas.{entries_more}
use Rattle.const_eval.proofs.listing.declared_sorts.Goals as goal

pub loop-constant-preserved : goal.loop-constant-preserved
loop-constant-preserved c =
    entries_more (λ d. sort_of_word d.sort) c.args.consts.now c.loop-constant.constant-index c.constant-item.result c.loop-constant.sorts _ _ _
    c.requires c.loop-constant-test.true c.constant-item.is c.loop-constant.invariant c.in_ok-copy.ensures c.declared_sort.ensures c.in_ok-insert.ensures.entries
