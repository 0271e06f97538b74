-- Which commands are enabled, without the list of them.
use Rattle.std.specs.Prelude.{ℕ, List, [], ◌∷◌, Bool, false, ◌&&◌, not, Result, Ok, Err}
use Rattle.std.specs.List.{list_any, list_all, enumerate_from}
use Rattle.chain_model.specs.declared.outcome.TraceFault.{TraceFault}
use Rattle.chain_model.specs.declared.chain.Act.{Act}
use Rattle.chain_model.specs.declared.chain.Action.{Action}
use Rattle.chain_model.specs.declared.chain.Chain.{Chain}
use Rattle.chain_model.specs.Chain.{is_part, is_unlabelled}
use Rattle.chain_model.specs.Results.{◌>>=◌}
use Rattle.chain_model.specs.States.{State}
use Rattle.chain_model.specs.Values.{Valued, truth}
use Rattle.chain_model.specs.Choices.{value_in}

-- a value is true; a fault is not
abbrev pub is_true : Valued → Bool
is_true (Ok value) = truth value
is_true (Err fault) = false

-- a command's guard holds
abbrev pub is_enabled : State → Act → Bool
is_enabled state act = is_true (value_in state act.guard)

-- the fault of the first guard that faults
abbrev pub guards_fault : State → List Act → Result (Unit {0}) TraceFault
guards_fault state [] = Ok tt
guards_fault state (act ∷ acts) = value_in state act.guard >>= λ value. guards_fault state acts

-- some command of a kind is enabled
abbrev pub some_enabled : (Act → Bool) → State → List Act → Bool
some_enabled test state acts = list_any (λ act. test act && is_enabled state act) acts

-- each module that takes part in an action has an enabled command with it
abbrev pub is_possible : State → List Act → ℕ × Action → Bool
is_possible state acts action = list_all (λ owner. some_enabled (is_part action.0 owner) state acts) action.1.takes

-- no command without an action is enabled, and no action is possible
abbrev pub is_deadlock : Chain → State → Bool
is_deadlock chain state =
    not (some_enabled is_unlabelled state chain.commands) && not (list_any (is_possible state chain.commands) (enumerate_from 0 chain.actions))
