use Rattle.std.proofs.Common.{drop}
use Rattle.successors.specs.Branching.{IsLed}
use Rattle.successors.proofs.telling.lead.Given as goal

-- what is told of the copies after the commands so far
abbrev pub invariant-loop-command : goal.invariant-loop-command
invariant-loop-command l = IsLed l.chain l.state l.chosen (drop l.command-index l.chosen) l.told l.first l.second
