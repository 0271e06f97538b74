use Rattle.std.proofs.Common.{◌≡◌, take}
use Rattle.std.specs.Prelude.{filter}
use Rattle.chain_model.specs.Choices.{command_is}
use Rattle.chain_model.specs.Chain.{is_part}
use Rattle.trace_meaning.proofs.groups.part.Given as goal

abbrev pub invariant-loop-number : goal.invariant-loop-number
invariant-loop-number l = l.numbers ≡ filter (command_is (is_part l.fn.action l.fn.owner) l.acts) (take l.number-index l.enabled)
