use Rattle.std.proofs.Common.{◌≡◌, ◌++◌, map, take, drop, option_map}
use Rattle.stop_rules.specs.Codes.{truths_in}
use Rattle.stop_rules.specs.Seats.{seated, seat_after_all}
use Rattle.stop_rules.proofs.seat.feed_seats.Given as goal

-- the seats before this one are fed
abbrev pub invariant-loop-seat : goal.invariant-loop-seat
invariant-loop-seat g l =
    map (λ s. seated (option_map (λ b. (goal.Observer-dyn g (b.vtable, b.value)).observation b.value) s.watcher) s.line) l.seats
    ≡ map (seat_after_all (take l.admitted (truths_in l.flip l.code)))
    (take l.seat-index (map (λ s. seated (option_map (λ b. (goal.Observer-dyn g (b.vtable, b.value)).observation b.value) s.watcher) s.line) l.initial.seats))
    ++ drop l.seat-index (map (λ s. seated (option_map (λ b. (goal.Observer-dyn g (b.vtable, b.value)).observation b.value) s.watcher) s.line) l.initial.seats)
