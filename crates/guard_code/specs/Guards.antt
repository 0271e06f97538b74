-- What the guards of all commands say: whether a state has a choice, without the list of choices.
use Rattle.std.specs.Prelude.{ℕ, ◌==◌, ◌&&◌, not, List, [], ◌∷◌, Bool, true, false, Option, Result, Ok, Err}
use Rattle.std.specs.List.{list_any, list_all, enumerate_from}
use Rattle.std.specs.Option.{option_map_or}
use Rattle.chain_model.specs.declared.outcome.TraceFault.{TraceFault}
use Rattle.chain_model.specs.declared.chain.Act.{Act}
use Rattle.chain_model.specs.Results.{◌>>=◌}
use Rattle.chain_model.specs.States.{State}
use Rattle.chain_model.specs.Choices.{value_in, no_labels}
use Rattle.guard_code.specs.declared.code.Command.{Command}
use Rattle.guard_code.specs.Wholes.{TruthResult, truth_of}
use Rattle.guard_code.specs.Nodes.{node_value}

-- a command's module and action, and what its guard says in a state
pub record Told : Type 0 where
  pub owner : ℕ
  pub action : Option ℕ
  pub guard : TruthResult

-- of a command of the chain, and of a compiled one
abbrev pub told_act : State → Act → Told
told_act state act = record { owner = act.module; action = act.action; guard = truth_of (value_in state act.guard) }

abbrev pub told_command : State → Command → Told
told_command state command = record { owner = command.module; action = command.action; guard = truth_of (node_value no_labels state command.guard) }

-- a guard holds
abbrev pub holds : TruthResult → Bool
holds (Ok b) = b
holds (Err fault) = false

-- the fault of the first guard that faults
abbrev pub guards_fault : List Told → Result (Unit {0}) TraceFault
guards_fault [] = Ok tt
guards_fault (told ∷ others) = told.guard >>= λ b. guards_fault others

-- a command has no action, and a command is one of its module with an action
abbrev pub is_single : Told → Bool
is_single told = option_map_or (λ action. false) told.action true

abbrev pub is_part_of : ℕ → ℕ → Told → Bool
is_part_of action owner told = option_map_or (λ a. a == action) told.action false && told.owner == owner

-- some command of a kind is enabled
abbrev pub some_enabled : (Told → Bool) → List Told → Bool
some_enabled test commands = list_any (λ told. test told && holds told.guard) commands

-- each module that takes part in an action has an enabled command with it
abbrev pub is_possible : List Told → ℕ × List ℕ → Bool
is_possible commands action = list_all (λ owner. some_enabled (is_part_of action.0 owner) commands) action.1

-- no command without an action is enabled, and no action is possible
abbrev pub is_stuck : List Told → List (List ℕ) → Bool
is_stuck commands takes = not (some_enabled is_single commands) && not (list_any (is_possible commands) (enumerate_from 0 takes))

-- whether a state has no choice, or the fault of the first guard that faults
abbrev pub stuck_result : List Told → List (List ℕ) → TruthResult
stuck_result commands takes = guards_fault commands >>= λ u. Ok (is_stuck commands takes)
