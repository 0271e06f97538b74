use Rattle.std.proofs.Common.{take}
use Rattle.successors.specs.Commands.{AreGuardNodes}
use Rattle.successors.proofs.commands.guards.Given as goal

-- the nodes so far
abbrev pub invariant-loop-act : goal.invariant-loop-act
invariant-loop-act l = AreGuardNodes (take l.act-index l.acts) l.nodes
