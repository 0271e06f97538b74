-- The lines of a trace's report.
use Rattle.std.specs.Prelude.{ℕ, ◌-◌, ℤ, pos, int_lt, nat_lt, List, [], ◌∷◌, ◌++◌, Option, Some, None, Result, Ok, Err, codes, decimal, length, take, slice_get, if◌then◌else◌}
use Rattle.std.specs.Fmt.{signed_decimal}
use Rattle.std.specs.List.{flat_map, zip}
use Rattle.std.specs.Option.{option_map_or}
use Rattle.chain_model.specs.declared.values.Sort.{Sort}
use Rattle.chain_model.specs.declared.values.Sort.TheVariants as sort
use Rattle.chain_model.specs.declared.outcome.TraceFault.{TraceFault}
use Rattle.chain_model.specs.declared.chain.Var.{Var}
use Rattle.chain_model.specs.declared.chain.Chain.{Chain}
use Rattle.chain_model.specs.declared.steps.Choice.{Choice}
use Rattle.chain_model.specs.declared.steps.Taken.{Taken}
use Rattle.chain_model.specs.States.{State}
use Rattle.smc_report.specs.Causes.{cause_text}

-- a value as it is written: that of a boolean is a truth value
abbrev pub value_text : Sort → ℤ → List ℕ
value_text sort.Bool value = if int_lt (pos 0) value then codes "true" else codes "false"
value_text sort.Int value = signed_decimal value
value_text sort.Double value = signed_decimal value

-- a variable and its value, after a blank
abbrev pub variable_text : Var → ℤ → List ℕ
variable_text var value = codes " " ++ (var.name ++ (codes "=" ++ value_text var.sort value))

-- the line of the state of a number
unfoldable pub state_line : Chain → ℕ → State → List ℕ
state_line chain number state =
    codes "state " ++ (decimal number ++ (codes ":"
    ++ (flat_map (λ pair. variable_text pair.0 pair.1) (zip chain.vars state) ++ codes "\n")))

-- the name of the action of a choice, if it has one
abbrev pub action_name : Chain → Option ℕ → List ℕ
action_name chain None = []
action_name chain (Some number) = option_map_or (λ action. action.name) (slice_get chain.actions number) []

-- a command by its number, after a blank
abbrev pub command_text : ℕ → List ℕ
command_text command = codes " #" ++ decimal command

-- a choice: its action in brackets, and its commands
abbrev pub choice_text : Chain → Choice → List ℕ
choice_text chain choice =
    codes "[" ++ (action_name chain choice.action ++ (codes "]" ++ flat_map command_text choice.commands))

-- how many choices are listed at most
abbrev pub most_listed : ℕ
most_listed = 16

-- how many choices are not listed, if some are not
abbrev pub more_text : ℕ → List ℕ
more_text count =
    if nat_lt most_listed count then codes "; and " ++ (decimal (count - most_listed) ++ codes " more") else []

-- the line of so many choices, of which these are listed
abbrev pub listed_line : Chain → ℕ → List Choice → List ℕ
listed_line chain count [] = codes "choices 0: stays\n"
listed_line chain count (choice ∷ choices) =
    codes "choices " ++ (decimal count ++ (codes ": " ++ (choice_text chain choice
    ++ (flat_map (λ other. codes "; " ++ choice_text chain other) choices ++ (more_text count ++ codes "\n")))))

-- the line of the choices of a state: there is none where a guard faults, or where they are too many
unfoldable pub choices_line : Chain → Result (List Choice) TraceFault → List ℕ
choices_line chain (Ok choices) = listed_line chain (length choices) (take most_listed choices)
choices_line chain (Err fault) = []

-- a command with the number of its branch, after a blank
abbrev pub branch_text : ℕ → ℕ → List ℕ
branch_text command branch = codes " #" ++ (decimal command ++ (codes "." ++ decimal branch))

-- what is taken of a choice with these commands: its action in brackets, and each command with the number of its
-- branch; of no choice nothing
abbrev pub taken_text : Chain → Taken → List ℕ → List ℕ
taken_text chain taken [] = codes "took nothing\n"
taken_text chain taken (command ∷ commands) =
    codes "took [" ++ (action_name chain taken.choice.action ++ (codes "]"
    ++ (flat_map (λ pair. branch_text pair.0 pair.1) (zip (command ∷ commands) taken.branches)
    ++ codes "\n")))

-- the line of what is taken
unfoldable pub taken_line : Chain → Taken → List ℕ
taken_line chain taken = taken_text chain taken taken.choice.commands

-- the line of the fault in making the state of a number
unfoldable pub fault_line : Chain → ℕ → TraceFault → List ℕ
fault_line chain number fault =
    codes "fault at step " ++ (decimal number ++ (codes ": " ++ (cause_text chain fault ++ codes "\n")))

-- the line of the place in the stream
unfoldable pub draws_line : ℕ → List ℕ
draws_line position = codes "draws: " ++ (decimal position ++ codes "\n")
