-- What a chain is: well typed, within the limits, and numbered as it says.
use Rattle.std.specs.Prelude.{◌≡◌, ℕ, ◌<◌, ◌≤◌, ◌^◌, ◌==◌, ◌&&◌, ℤ, pos, ◌≤ℤ◌, unsigned_abs, List, [], ◌∷◌, length, All, Bool, true, false, Option, Some, None, IfSome, IsTrue, slice_get, slice_index_or}
use Rattle.std.specs.List.{AllPairs, list_any}
use Rattle.std.specs.Option.{option_map_or}
use Rattle.chain_model.specs.declared.values.Sort.{Sort}
use Rattle.chain_model.specs.declared.values.Sort.TheVariants as sort
use Rattle.chain_model.specs.declared.expressions.Labels.TheVariants.{Refused}
use Rattle.chain_model.specs.declared.expressions.Typed.{Typed}
use Rattle.chain_model.specs.declared.chain.Var.{Var}
use Rattle.chain_model.specs.declared.chain.Action.{Action}
use Rattle.chain_model.specs.declared.chain.Arm.{Arm}
use Rattle.chain_model.specs.declared.chain.Act.{Act}
use Rattle.chain_model.specs.Limits.{most_modules, most_variables, most_commands, most_branches}
use Rattle.chain_model.specs.Typing.{HasSort, IsNumber}

-- a whole number within the limits of numbers
abbrev pub IsWithinLimits : ℤ → Type 0
IsWithinLimits n = unsigned_abs n < 2 ^ 62

-- a variable is of sort `int` or `bool`, belongs to a module that is there or to none, starts in its range, which is
-- within the limits of numbers, and goes from 0 to 1 where it is a boolean
pub record IsVariable (modules : ℕ) (var : Var) : Type 0 where
  pub kind : ¬ (var.sort ≡ sort.Double)
  pub owner : IfSome var.owner (λ number. number < modules)
  pub from : var.lo ≤ℤ var.init
  pub to : var.init ≤ℤ var.hi
  pub least : IsWithinLimits var.lo
  pub greatest : IsWithinLimits var.hi
  pub truth : var.sort ≡ sort.Bool → (var.lo ≡ pos 0) × (var.hi ≡ pos 1)

-- a command has no action
abbrev pub is_unlabelled : Act → Bool
is_unlabelled act = option_map_or (λ action. false) act.action true

-- a command may assign the variables of its module and, where it has no action, globals
abbrev pub may_assign : Act → Var → Bool
may_assign act var = option_map_or (λ owner. owner == act.module) var.owner (is_unlabelled act)

-- an assignment is to a variable that is there and that its command may assign, and its right side is of that variable's sort
pub record IsAssignment (vars : List Var) (act : Act) (set : ℕ × Typed) : Type 0 where
  pub known : set.0 < length vars
  pub allowed : (var : Var) → slice_get vars set.0 ≡ Some var → IsTrue (may_assign act var)
  pub typed : (var : Var) → slice_get vars set.0 ≡ Some var → HasSort vars Refused var.sort set.1

-- the weight of a branch is a number, and it assigns no variable twice
pub record IsBranch (vars : List Var) (act : Act) (arm : Arm) : Type 0 where
  pub weight : IsNumber vars Refused arm.weight
  pub assignments : All (IsAssignment vars act) arm.sets
  pub once : AllPairs (λ a b. ¬ (a.0 ≡ b.0)) arm.sets

-- a command is of a module that is there, and of an action that is there or of none; its guard is of sort `bool`; it has a branch, and not too many
pub record IsCommand (vars : List Var) (actions modules : ℕ) (act : Act) : Type 0 where
  pub owner : act.module < modules
  pub action : IfSome act.action (λ number. number < actions)
  pub guard : HasSort vars Refused sort.Bool act.guard
  pub some : 1 ≤ length act.branches
  pub few : length act.branches ≤ most_branches
  pub branches : All (IsBranch vars act) act.branches

-- a command is one of its module with an action
abbrev pub is_part : ℕ → ℕ → Act → Bool
is_part action number act = option_map_or (λ a. a == action) act.action false && act.module == number

-- modules are exactly those that have a command with an action
abbrev pub TakesExactly : List Act → ℕ → List ℕ → Type 0
TakesExactly commands action modules =
    (owner : ℕ) → list_any (λ number. number == owner) modules ≡ list_any (is_part action owner) commands

-- an action takes exactly the modules that have a command with it, at least one, each once and in rising order
pub record IsAction (commands : List Act) (number : ℕ) (action : Action) : Type 0 where
  pub some : 1 ≤ length action.takes
  pub rising : AllPairs ◌<◌ action.takes
  pub exact : TakesExactly commands number action.takes

-- each action is one of its number
pub record AreActions (commands : List Act) (actions : List Action) : Type 0 where
  pub each : (number : ℕ) (default : Action) → number < length actions → IsAction commands number (slice_index_or actions number default)

-- a chain is within the limits; its variables, commands and actions are as they must be; its commands go by module; its labels are of sort `bool`
pub record IsChain (vars : List Var) (actions : List Action) (modules : List (List ℕ)) (commands : List Act) (labels : List (List ℕ × Typed)) : Type 0 where
  pub few_modules : length modules ≤ most_modules
  pub few_variables : length vars ≤ most_variables
  pub few_commands : length commands ≤ most_commands
  pub each_variable : All (IsVariable (length modules)) vars
  pub each_command : All (IsCommand vars (length actions) (length modules)) commands
  pub by_module : AllPairs (λ a b. a.module ≤ b.module) commands
  pub each_action : AreActions commands actions
  pub each_label : All (λ label. HasSort vars Refused sort.Bool label.1) labels
