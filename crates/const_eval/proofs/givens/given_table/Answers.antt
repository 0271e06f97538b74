use Rattle.std.proofs.Common.{bytes_eq}
use Rattle.indexmap.specs.IndexMap.{get}
use Rattle.const_eval.proofs.ListingLemmas.{given_more}
use Rattle.const_eval.proofs.givens.given_table.Goals as goal

pub loop-item-preserved : goal.loop-item-preserved
loop-item-preserved c =
    given_more c.args.given.now c.loop-item.item-index c.item-item.result c.loop-item-test.true c.item-item.is
    (get bytes_eq c.loop-item.table) (get bytes_eq c.insert.new.self) c.in_ok-copy.field-0 c.loop-item.invariant c.in_ok-copy.ensures
    (c.in_ok-insert.ensures.updates).0
