-- A step of a trace, in six points:
-- 1. All guards are evaluated, by module and place. The first fault is the step's fault.
-- 2. More than 2^48 choices are a fault.
-- 3. Where there is no choice nothing is taken: the state stays as it is, and nothing is drawn.
-- 4. Where there are several choices a draw picks one.
-- 5. For each command of the choice, by module, its weights are evaluated from left to right; each lies from 0 to 1,
--    they have a common denominator of at most 2^48, and their sum is 1. Where there are several branches a draw picks
--    one.
-- 6. The right sides of these branches are evaluated in the old state, by module and place; each lies in its
--    variable's range. Then all are assigned.
use Rattle.std.specs.Prelude.{◌==◌, ℕ, suc, ◌+◌, ◌*◌, ◌/◌, ℤ, pos, List, [], ◌∷◌, Bool, true, false, not, ◌&&◌, Option, Some, None, Result, Ok, Err, if◌then◌else◌, nat_lt, nat_le, int_le, length, slice_get, slice_set, sum, map, fold, flat_map, unwrap_or, unsigned_abs}
use Rattle.std.specs.List.{zip}
use Rattle.std.specs.Option.{option_map_or}
use Rattle.trace_streams.specs.Pick.{pick_of}
use Rattle.smc_num.specs.Gcd.{lcm_of}
use Rattle.smc_num.specs.Fraction.{Fraction}
use Rattle.chain_model.specs.declared.outcome.TraceFault.{TraceFault}
use Rattle.chain_model.specs.declared.outcome.TraceFault.TheVariants.{Range, Weights, Denominator, Choices}
use Rattle.chain_model.specs.declared.values.Value.{Value}
use Rattle.chain_model.specs.declared.values.Value.TheVariants as v
use Rattle.chain_model.specs.declared.expressions.Typed.{Typed}
use Rattle.chain_model.specs.declared.chain.Var.{Var}
use Rattle.chain_model.specs.declared.chain.Arm.{Arm}
use Rattle.chain_model.specs.declared.chain.Chain.{Chain}
use Rattle.chain_model.specs.declared.steps.Choice.{Choice}
use Rattle.chain_model.specs.declared.steps.Taken.{Taken}
use Rattle.chain_model.specs.Limits.{most_choices, most_weight_denominator}
use Rattle.chain_model.specs.States.{State}
use Rattle.chain_model.specs.Results.{◌>>=◌, ◌>>◌, refuse_if, each}
use Rattle.chain_model.specs.Choices.{value_in, choices_of}

-- where a trace stands: its state, and how many draws it took to come there
pub record Configuration : Type 0 where
  pub state : State
  pub position : ℕ

-- one of several is picked by a draw, and one alone is taken without
abbrev pub is_drawn : ℕ → Bool
is_drawn count = nat_le 2 count

-- how many draws it takes to take one of so many
abbrev pub draws_for : ℕ → ℕ
draws_for count = if is_drawn count then 1 else 0

-- what is taken of no choice
abbrev pub no_choice : Choice
no_choice = record { action = None; commands = [] }

-- the choice that is taken: of several the one that the draw at a position picks
abbrev pub choice_of : (ℕ → ℕ) → ℕ → List Choice → Choice
choice_of draw position choices =
    unwrap_or (slice_get choices (if is_drawn (length choices) then pick_of (draw position) (length choices) else 0)) no_choice

-- the branches of the command of a number
abbrev pub arms_of : Chain → ℕ → List Arm
arms_of chain command = option_map_or (λ act. act.branches) (slice_get chain.commands command) []

-- a weight lies from 0 to 1
abbrev pub as_weight : ℕ → Value → Result Fraction TraceFault
as_weight command (v.Num x) = if int_le (pos 0) x.num && int_le x.num (pos x.den) then Ok x else Err (Weights command)
as_weight command (v.Bool b) = Err (Weights command)

-- the weights of a command's branches, from left to right
abbrev pub weights_of : State → ℕ → List Arm → Result (List Fraction) TraceFault
weights_of state command arms = each (λ arm. value_in state arm.weight >>= as_weight command) arms

-- the least common denominator of weights, and their numerators over it
abbrev pub denominator_of : List Fraction → ℕ
denominator_of weights = fold (λ den weight. lcm_of den weight.den) 1 weights

abbrev pub numerators_of : List Fraction → List ℕ
numerators_of weights = map (λ weight. unsigned_abs weight.num * (denominator_of weights / weight.den)) weights

-- for each number the sum of it and of those before it
abbrev pub running_sums : ℕ → List ℕ → List ℕ
running_sums before [] = []
running_sums before (n ∷ ns) = (before + n) ∷ running_sums (before + n) ns

-- the index of the first number that exceeds another
abbrev pub first_above : ℕ → List ℕ → ℕ
first_above least [] = 0
first_above least (n ∷ ns) = if nat_lt least n then 0 else suc (first_above least ns)

-- the branch that is taken: of several the first whose running sum exceeds what the draw at a position picks
abbrev pub branch_number : (ℕ → ℕ) → ℕ → List Fraction → ℕ
branch_number draw position weights =
    if is_drawn (length weights)
    then first_above (pick_of (draw position) (denominator_of weights)) (running_sums 0 (numerators_of weights))
    else 0

-- the branch that a command takes, by the draw at a position
unfoldable pub branch_of : Chain → (ℕ → ℕ) → State → ℕ → ℕ → Result ℕ TraceFault
branch_of chain draw state position command = do
  weights ← weights_of state command (arms_of chain command)
  refuse_if (nat_lt most_weight_denominator (denominator_of weights)) (Denominator command)
  refuse_if (not (sum (numerators_of weights) == denominator_of weights)) (Weights command)
  Ok (branch_number draw position weights)

-- how many draws a command takes for its branch
abbrev pub command_draws : Chain → ℕ → ℕ
command_draws chain command = draws_for (length (arms_of chain command))

-- the branches that commands take, in their order, by the draws from a position on
abbrev pub branches_of : Chain → (ℕ → ℕ) → State → ℕ → List ℕ → Result (List ℕ) TraceFault
branches_of chain draw state position [] = Ok []
branches_of chain draw state position (command ∷ commands) = do
  branch ← branch_of chain draw state position command
  others ← branches_of chain draw state (position + command_draws chain command) commands
  Ok (branch ∷ others)

-- the assignments of a command's branch, and those of the branches of several commands, in their order
abbrev pub sets_of : Chain → ℕ → ℕ → List (ℕ × Typed)
sets_of chain command branch = option_map_or (λ arm. arm.sets) (slice_get (arms_of chain command) branch) []

abbrev pub all_sets : Chain → List ℕ → List ℕ → List (ℕ × Typed)
all_sets chain commands branches = flat_map (λ taken. sets_of chain taken.0 taken.1) (zip commands branches)

-- how a value stands in a state
abbrev pub stored : Value → ℤ
stored (v.Bool false) = pos 0
stored (v.Bool true) = pos 1
stored (v.Num x) = x.num

-- whether a value is within a variable's range
abbrev pub is_within : Option Var → ℤ → Bool
is_within None n = false
is_within (Some var) n = int_le var.lo n && int_le n var.hi

-- what is assigned: the right side's value in the old state, which is within the variable's range
unfoldable pub assignment_of : Chain → State → ℕ × Typed → Result (ℕ × ℤ) TraceFault
assignment_of chain state set = do
  value ← value_in state set.1
  refuse_if (not (is_within (slice_get chain.vars set.0) (stored value))) (Range set.0)
  Ok (set.0, stored value)

-- a state after assignments
abbrev pub after_assignments : State → List (ℕ × ℤ) → State
after_assignments state assigned = fold (λ s one. slice_set s one.0 one.1) state assigned

-- how many draws a step takes: for its choice of so many, and for the branch of each of its commands
abbrev pub step_draws : Chain → ℕ → Choice → ℕ
step_draws chain count choice = draws_for count + sum (map (command_draws chain) choice.commands)

-- a step, and what it takes: `draw` gives the draw at each position of the trace's stream
unfoldable pub step_of : Chain → (ℕ → ℕ) → Configuration → Result (Configuration × Taken) TraceFault
step_of chain draw from = do
  choices ← choices_of chain from.state
  refuse_if (nat_lt most_choices (length choices)) Choices
  choice ← Ok (choice_of draw from.position choices)
  branches ← branches_of chain draw from.state (from.position + draws_for (length choices)) choice.commands
  assigned ← each (assignment_of chain from.state) (all_sets chain choice.commands branches)
  Ok (
    record { state = after_assignments from.state assigned; position = from.position + step_draws chain (length choices) choice },
    record { choice = choice; branches = branches },
  )
