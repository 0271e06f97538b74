use Rattle.std.proofs.Common.{length}
use Rattle.name_graph.proofs.walk.Walk.complete_component.Given as goal

-- how many places are open
abbrev pub decreases-loop-place : goal.decreases-loop-place
decreases-loop-place l = length l.self.pending.items
