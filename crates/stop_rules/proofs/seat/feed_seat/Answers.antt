use Rattle.stop_rules.specs.Codes.{truths_in}
use Rattle.stop_rules.proofs.SeatLemmas.{seat_after_one_more}
use Rattle.stop_rules.proofs.seat.feed_seat.Goals as goal

pub loop-position-preserved : goal.loop-position-preserved
loop-position-preserved g c = record {
  seat = seat_after_one_more (truths_in c.args.flip c.args.code) c.loop-position.position c.success_at-success.result _ _ _ c.success_at-success.ensures c.loop-position.invariant.seat c.feed_watcher.ensures.seat;
  ready = c.feed_watcher.ensures.ready;
}
