-- The traces before this one are admitted, the observers have seen them, and nothing has ended the run.
use Rattle.std.proofs.Common.{◌≡◌, ◌+◌, IsTrue, map, option_map}
use Rattle.std.specs.List.{list_all}
use Rattle.stop_rules.specs.Seats.{seated, watching, is_ready_seat}
use Rattle.one_trace.specs.Work.{IsMadeFor}
use Rattle.sampling_run.proofs.RunLemmas.{HasAdmitted}
use Rattle.sampling_run.proofs.drawing.draw_in.Given as goal

abbrev pub invariant-loop-trace : goal.invariant-loop-trace
invariant-loop-trace g l = record {
  work : IsMadeFor l.job l.work;
  same : l.admit.goal ≡ l.fn.goal;
  limit : l.limit ≡ l.fn.goal.limit;
  many : l.admit.tally.d + l.admit.tally.f ≡ l.trace;
  ready : IsTrue (list_all is_ready_seat (map (λ s. seated (option_map (λ b. (goal.Observer-dyn g (b.vtable, b.value)).observation b.value) s.watcher) s.line) l.admit.seats.items));
  admitted : HasAdmitted l.job l.fn.goal (map (λ b. watching ((goal.Observer-dyn g (b.vtable, b.value)).observation b.value)) l.fn.watch.items)
      (map (λ s. seated (option_map (λ b. (goal.Observer-dyn g (b.vtable, b.value)).observation b.value) s.watcher) s.line) l.admit.seats.items) l.admit.tally l.trace;
}
