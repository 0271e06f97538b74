use Rattle.std.proofs.Common.{All, take}
use Rattle.name_graph.specs.PartOrder.{IsMarked}
use Rattle.name_graph.proofs.visiting.undone.Given as goal

-- all places so far are done
abbrev pub invariant-loop-place : goal.invariant-loop-place
invariant-loop-place l = All (λ j. IsMarked l.done j) (take l.place-index l.uses)
