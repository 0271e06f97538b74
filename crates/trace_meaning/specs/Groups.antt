-- The choices of a state in groups: each command without an action is a group of its own, and each action is one.
use Rattle.std.specs.Prelude.{ℕ, List, [], ◌∷◌, ◌++◌, map, filter, Some, None}
use Rattle.std.specs.List.{enumerate_from}
use Rattle.chain_model.specs.declared.chain.Act.{Act}
use Rattle.chain_model.specs.declared.chain.Action.{Action}
use Rattle.chain_model.specs.declared.chain.Chain.{Chain}
use Rattle.chain_model.specs.declared.steps.Choice.{Choice}
use Rattle.chain_model.specs.Chain.{is_unlabelled}
use Rattle.chain_model.specs.Choices.{combinations, command_is, parts_of}
use Rattle.trace_meaning.specs.declared.groups.Group.{Group}

-- the choices of a group: each has one command of each of its parts
abbrev pub group_choices : Group → List Choice
group_choices group = map (λ commands. record { action = group.action; commands = commands }) (combinations group.parts)

-- the group of a command without an action
abbrev pub single_group : ℕ → Group
single_group number = record { action = None; parts = (number ∷ []) ∷ [] }

-- the group of an action
abbrev pub action_group : List Act → List ℕ → ℕ × Action → Group
action_group acts enabled action = record { action = Some action.0; parts = parts_of acts enabled action.0 action.1.takes }

-- the groups of the enabled commands
abbrev pub groups_of : Chain → List ℕ → List Group
groups_of chain enabled =
    map single_group (filter (command_is is_unlabelled chain.commands) enabled)
    ++ map (action_group chain.commands enabled) (enumerate_from 0 chain.actions)
