use Rattle.std.proofs.Common.{◌≡◌, IsTrue, take, option_map}
use Rattle.stop_rules.specs.Codes.{truths_in}
use Rattle.stop_rules.specs.Seats.{seated, seat_after_all, is_ready_seat}
use Rattle.stop_rules.proofs.seat.feed_seat.Given as goal

-- the seat has seen the traces before this position
abbrev pub invariant-loop-position : goal.invariant-loop-position
invariant-loop-position g l = record {
  seat : seated (option_map (λ b. (goal.Observer-dyn g (b.vtable, b.value)).observation b.value) l.seat.watcher) l.seat.line
      ≡ seat_after_all (take l.position (truths_in l.flip l.code))
      (seated (option_map (λ b. (goal.Observer-dyn g (b.vtable, b.value)).observation b.value) l.initial.seat.watcher) l.initial.seat.line);
  ready : IsTrue (is_ready_seat (seated (option_map (λ b. (goal.Observer-dyn g (b.vtable, b.value)).observation b.value) l.seat.watcher) l.seat.line));
}
