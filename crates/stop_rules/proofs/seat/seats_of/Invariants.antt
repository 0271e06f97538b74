use Rattle.std.proofs.Common.{◌≡◌, map, option_map}
use Rattle.stop_rules.specs.Seats.{seated, watching}
use Rattle.stop_rules.proofs.seat.seats_of.Given as goal

-- a seat for each observer so far
abbrev pub invariant-loop-watcher : goal.invariant-loop-watcher
invariant-loop-watcher g l =
    map (λ s. seated (option_map (λ b. (goal.Observer-dyn g (b.vtable, b.value)).observation b.value) s.watcher) s.line) l.seats.items
    ≡ map (λ b. watching ((goal.Observer-dyn g (b.vtable, b.value)).observation b.value)) l.yielded
