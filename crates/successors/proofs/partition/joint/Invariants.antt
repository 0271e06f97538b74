use Rattle.std.proofs.Common.{◌≡◌, ◌++◌, drop, map}
use Rattle.std.specs.List.{enumerate_from}
use Rattle.chain_model.specs.Choices.{parts_of}
use Rattle.successors.proofs.partition.joint.Given as goal

-- the commands of the actions so far, and those of the others
abbrev pub invariant-loop-number : goal.invariant-loop-number
invariant-loop-number l =
    l.joint ++ map (λ action. parts_of l.acts l.numbers action.0 action.1.takes) (enumerate_from l.number (drop l.number l.actions))
    ≡ map (λ action. parts_of l.acts l.numbers action.0 action.1.takes) (enumerate_from 0 l.actions)
