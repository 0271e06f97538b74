-- The expressions of a job by their numbers, and what is a code of a job.
use Rattle.std.specs.Prelude.{◌≡◌, List, [], ◌∷◌, ◌++◌, map, flat_map}
use Rattle.std.specs.Cmp.Lexicographic.{pointwise}
use Rattle.std.specs.Ordering.{int_eq}
use Rattle.chain_model.specs.declared.values.LabelValues.{LabelValues}
use Rattle.chain_model.specs.declared.expressions.Typed.{Typed}
use Rattle.chain_model.specs.declared.chain.Act.{Act}
use Rattle.chain_model.specs.declared.chain.Arm.{Arm}
use Rattle.chain_model.specs.declared.job.Path.{Path}
use Rattle.chain_model.specs.declared.job.Job.{Job}
use Rattle.chain_model.specs.States.{State, initial_of}
use Rattle.chain_model.specs.Values.{Valued}
use Rattle.chain_model.specs.Choices.{value_in}
use Rattle.chain_model.specs.Labels.{value_of}
use Rattle.guard_code.specs.declared.code.Code.{Code}
use Rattle.guard_code.specs.declared.running.Formula.{Formula}
use Rattle.guard_code.specs.declared.running.Formula.TheVariants.{First, Second}
use Rattle.guard_code.specs.Tests.{IsSmall}
use Rattle.guard_code.specs.Means.{Means, AllMean}
use Rattle.guard_code.specs.Guards.{told_act, told_command, stuck_result}

-- the expressions of a branch: its weight, and then its right sides
abbrev pub branch_expressions : Arm → List Typed
branch_expressions arm = arm.weight ∷ map (λ set. set.1) arm.sets

-- the expressions of a command: its guard, and then those of its branches
abbrev pub command_expressions : Act → List Typed
command_expressions act = act.guard ∷ flat_map branch_expressions act.branches

-- the expressions of a job: those of its commands, and then the two state formulas of its path
abbrev pub model_expressions : Job → List Typed
model_expressions job = flat_map command_expressions job.chain.commands

abbrev pub formula_of : Path → Formula → Typed
formula_of path First = path.first
formula_of path Second = path.second

abbrev pub path_expressions : Job → List Typed
path_expressions job = job.path.first ∷ (job.path.second ∷ [])

abbrev pub expressions_of : Job → List Typed
expressions_of job = model_expressions job ++ path_expressions job

-- the values of a job's expressions in a state; built-in labels may stand in the path's alone
abbrev pub values_of : Job → State → List Valued
values_of job state = map (value_in state) (model_expressions job) ++ map (value_of job.chain state) (path_expressions job)

-- a code is one of a job: its nodes have the values of the job's expressions; its commands' guards say what those of
-- the chain say; and it has the initial state, and the modules that take part in each action
pub record IsCode (job : Job) (code : Code) : Type 0 where
  pub nodes : AllMean code.nodes (model_expressions job)
  pub first : Means code.first job.path.first
  pub second : Means code.second job.path.second
  pub commands : (state : State) → IsSmall state → map (told_command state) code.commands ≡ map (told_act state) job.chain.commands
  pub takes : code.takes ≡ map (λ action. action.takes) job.chain.actions
  pub initial : code.initial ≡ initial_of job.chain

-- what the built-in labels say by a code
abbrev pub code_labels : Code → State → LabelValues
code_labels code state = record {
  init = pointwise int_eq state code.initial;
  deadlock = stuck_result (map (told_command state) code.commands) code.takes;
}
