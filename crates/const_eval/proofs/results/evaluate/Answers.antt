use Rattle.std.proofs.Common.{subst, bytes_eq}
use Rattle.std.proofs.lemmas.List.{take_all}
use Rattle.indexmap.specs.IndexMap.{get}
use Rattle.const_eval.proofs.PartLemmas.{HasPlaces, part_step, part_arithmetic, whole_part}
use Rattle.const_eval.proofs.results.evaluate.Goals as goal

pub loop-place-preserved : goal.loop-place-preserved
loop-place-preserved c =
    let step = part_step c.args.consts.now (get bytes_eq c.args.given.now) c.args.order.now c.requires.order c.requires.distinct
    (get bytes_eq c.loop-place.values) (get bytes_eq c.insert.new.self) c.loop-place.place-index c.index-consts-place.result c.in_ok-copy.field-0 c.result_of-found.result
    c.loop-place-test.true c.index-consts-place.is c.loop-place.invariant.part c.loop-place.invariant.places c.in_ok-copy.ensures c.result_of-found.ensures
    (c.in_ok-insert.ensures.updates).0 in
    record { part = step.0; places = step.1 }

pub returns-clause-valuation : goal.returns-clause-valuation
returns-clause-valuation c =
    whole_part c.args.consts.now (get bytes_eq c.args.given.now) (get bytes_eq c.loop-place.values) c.args.order.now c.requires.order c.loop-place.invariant.part
    (subst (HasPlaces c.args.consts.now (get bytes_eq c.loop-place.values)) (take_all c.loop-place.place-index c.args.order.now c.loop-place-test.false) c.loop-place.invariant.places)

pub returns-clause-arithmetic : goal.returns-clause-arithmetic
returns-clause-arithmetic c = part_arithmetic c.args.consts.now (get bytes_eq c.args.given.now) (get bytes_eq c.loop-place.values) c.loop-place.invariant.part
