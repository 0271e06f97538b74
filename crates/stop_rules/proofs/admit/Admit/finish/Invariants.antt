use Rattle.std.proofs.Common.{◌≡◌, ◌≤◌, map, take, option_map, length, vec_capacity}
use Rattle.stop_rules.specs.Seats.{seated, line_at}
use Rattle.stop_rules.proofs.admit.Admit.finish.Given as goal

-- a line for each seat so far
abbrev pub invariant-loop-seat : goal.invariant-loop-seat
invariant-loop-seat g l = record {
  lines : l.lines.items ≡ map line_at (map (λ s. seated (option_map (λ b. (goal.Observer-dyn g (b.vtable, b.value)).observation b.value) s.watcher) s.line) (take l.seat-index l.seat-items));
  room : length l.seat-items ≤ vec_capacity l.lines;
}
