use Rattle.std.proofs.Common.{◌≡◌, take}
use Rattle.std.specs.Prelude.{filter}
use Rattle.chain_model.specs.Chain.{is_unlabelled}
use Rattle.chain_model.specs.Choices.{command_is}
use Rattle.successors.proofs.partition.singles.Given as goal

-- those so far
abbrev pub invariant-loop-number : goal.invariant-loop-number
invariant-loop-number l = l.singles ≡ filter (command_is is_unlabelled l.acts) (take l.number-index l.numbers)
