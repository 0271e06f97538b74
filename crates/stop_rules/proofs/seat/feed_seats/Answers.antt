use Rattle.std.proofs.Common.{◌<◌, length, arith, take}
use Rattle.stop_rules.specs.Codes.{truths_in}
use Rattle.stop_rules.specs.Seats.{seat_after_all, is_ready_seat}
use Rattle.stop_rules.proofs.SeatLemmas.{changed_one_more, passes_at, all_changed, all_ready_after_all}
use Rattle.stop_rules.proofs.seat.feed_seats.Goals as goal

pub feed_seat-requires-clause-ready : goal.feed_seat-requires-clause-ready
feed_seat-requires-clause-ready g c =
    let inside : c.loop-seat.seat-index < length c.loop-seat.seats = omega arith in
    passes_at _ (seat_after_all (take c.args.admitted (truths_in c.args.flip c.args.code))) is_ready_seat _ c.loop-seat.seats c.loop-seat.seat-index c.seat-item.result c.requires.ready c.loop-seat.invariant inside

pub loop-seat-preserved : goal.loop-seat-preserved
loop-seat-preserved g c =
    let inside : c.loop-seat.seat-index < length c.loop-seat.seats = omega arith in
    changed_one_more _ (seat_after_all (take c.args.admitted (truths_in c.args.flip c.args.code))) c.args.seats.now c.loop-seat.seats c.loop-seat.seat-index c.seat-item.result c.feed_seat.new.seat
    c.loop-seat-test.true c.loop-seat.invariant inside c.feed_seat.ensures.seat

pub returns-clause-ready : goal.returns-clause-ready
returns-clause-ready g c =
    let f = seat_after_all (take c.args.admitted (truths_in c.args.flip c.args.code)) in
    rw (all_changed _ f c.args.seats.now _ c.loop-seat.seat-index c.loop-seat-test.false c.loop-seat.invariant)
    (all_ready_after_all (take c.args.admitted (truths_in c.args.flip c.args.code)) _ c.requires.ready)
