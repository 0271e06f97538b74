use Rattle.std.proofs.Common.{◌≡◌, take, map}
use Rattle.std.specs.Prelude.{filter}
use Rattle.chain_model.specs.Chain.{is_unlabelled}
use Rattle.chain_model.specs.Choices.{command_is}
use Rattle.trace_meaning.specs.Groups.{single_group}
use Rattle.trace_meaning.proofs.groups.single_groups.Given as goal

-- the groups of the enabled commands so far
abbrev pub invariant-loop-number : goal.invariant-loop-number
invariant-loop-number l = l.groups ≡ map single_group (filter (command_is is_unlabelled l.acts) (take l.number-index l.enabled))
