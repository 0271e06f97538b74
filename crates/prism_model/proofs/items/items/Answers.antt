use Rattle.prism_model.proofs.ModelLemmas.{collected_begun, collected_more, collected_all, items_missing, some_left, none_left}
use Rattle.prism_reading.proofs.AnswerLemmas.{passed}
use Rattle.prism_model.proofs.ItemLemmas.{item_starts}
use Rattle.prism_reading.proofs.EachLemmas.{shorter}
use Rattle.prism_model.proofs.items.items.Goals as goal

pub loop-rest-init : goal.loop-rest-init
loop-rest-init c =
    collected_begun _ _ (λ i. record { consts = c.new.ensures i; globals = c.new-2.ensures i; formulas = c.new-3.ensures i; modules = c.new-4.ensures i; labels = c.new-5.ensures i })

pub loop-rest-preserved : goal.loop-rest-preserved
loop-rest-preserved c = collected_more c.loop-rest.invariant (some_left _ c.is_empty.ensures c.loop-rest-test.true) c.in_ok-next.ensures c.in_ok-add.ensures

pub loop-rest-smaller : goal.loop-rest-smaller
loop-rest-smaller c = shorter item_starts c.in_ok-next.ensures

pub returns-in_err-next : goal.returns-in_err-next
returns-in_err-next c = passed _ _ _ c.in_err-next.field-0.0 c.from_residual.result c.from_residual.ensures.1 c.in_err-next.ensures (λ left none. items_missing c.loop-rest.invariant (some_left _ c.is_empty.ensures c.loop-rest-test.true) none)

pub returns : goal.returns
returns c = collected_all c.loop-rest.invariant (none_left _ c.is_empty.ensures c.loop-rest-test.false)
