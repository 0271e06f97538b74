-- A move from its parts: the choice, and what follows it.
use Rattle.std.proofs.Common.{◌≡◌, ℕ, ◌+◌, ◌<◌, ◌≤◌, ◌^◌, List, [], ◌∷◌, length, map, min, Bool, refl, sym, ap, ◌∙◌, subst, arith, nat_lt, Result, Ok, Err, Some, None}
use Rattle.std.specs.Prelude.{Option, option_map, slice_get, filter, sum, unwrap_or, if◌then◌else◌, IfOk, OnErr}
use Rattle.std.specs.List.{range_with_len}
use Rattle.std.proofs.lemmas.Bool.{lt-ltb, le-ltb}
use Rattle.std.proofs.lemmas.List.{length-map}
use Rattle.trace_streams.specs.Pick.{pick_of}
use Rattle.chain_model.specs.declared.outcome.TraceFault.{TraceFault}
use Rattle.chain_model.specs.declared.outcome.TraceFault.TheVariants.{Choices}
use Rattle.chain_model.specs.declared.chain.Chain.{Chain}
use Rattle.chain_model.specs.declared.steps.Choice.{Choice}
use Rattle.chain_model.specs.declared.steps.Taken.{Taken}
use Rattle.chain_model.specs.Limits.{most_choices}
use Rattle.chain_model.specs.Results.{◌>>=◌, ◌>>◌, refuse_if}
use Rattle.chain_model.specs.States.{State, IsState}
use Rattle.chain_model.specs.Choices.{choices_of, choices_among}
use Rattle.chain_model.specs.Step.{Configuration, no_choice, choice_of, is_drawn, draws_for, command_draws, branches_of, all_sets, step_of}
use Rattle.chain_model.proofs.StepLemmas.{step_stays, step_keeps}
use Rattle.trace_meaning.specs.declared.fault.StepFault.TheVariants.{Trace}
use Rattle.trace_meaning.specs.Assigning.{assigned_to}
use Rattle.trace_meaning.specs.Counted.{limited_choices}
use Rattle.trace_meaning.specs.Stepped.{choice_number, choice_taken}
use Rattle.trace_meaning.proofs.CombinationLemmas.{get_mapped}
use Rattle.trace_meaning.proofs.StepLemmas.{taken_few, choice_err, branches_err, assigned_err, stepped}
use Rattle.successors.specs.declared.plan.Plan.{Plan}
use Rattle.successors.specs.Enabled.{is_enabled, numbers_with, AreGuards}
use Rattle.successors.specs.Partition.{choice_lists}
use Rattle.successors.specs.Steppers.{IsPlan}
use Rattle.successors.specs.Moves.{next_of, came, commands_taken, after_commands}
use Rattle.successors.proofs.PartitionLemmas.{enabled_numbers, choices_commands}

-- the choices of a state, by the bits of a lane
pub record Known (chain : Chain) (state : State) (plan : Plan) (lane : ℕ) (bytes : List ℕ) : Type 0 where
  pub choices : List Choice
  pub made : choices_of chain state ≡ Ok choices
  pub commands : map (λ (choice : Choice). choice.commands) choices ≡ choice_lists (is_enabled lane bytes) plan.partition.singles plan.partition.actions
  pub size : length choices ≡ length (choice_lists (is_enabled lane bytes) plan.partition.singles plan.partition.actions)

pub known : (chain : Chain) (state : State) (plan : Plan) (lane : ℕ) (bytes : List ℕ) → IsPlan chain plan → AreGuards chain state lane bytes → Known chain state plan lane bytes
unfolding choices_of
known chain state plan lane bytes is guards =
    let choices : List Choice = choices_among chain (numbers_with lane 0 bytes) in
    let commands : map (λ (choice : Choice). choice.commands) choices ≡ choice_lists (is_enabled lane bytes) plan.partition.singles plan.partition.actions =
    ap (λ (ns : List ℕ). map (λ (choice : Choice). choice.commands) (choices_among chain ns))
    (enabled_numbers lane bytes ∙ ap (λ n. filter (is_enabled lane bytes) (range_with_len 0 n)) guards.long)
    ∙ choices_commands chain plan.partition.singles plan.partition.actions (is_enabled lane bytes) is.partition in
    record {
      choices = choices;
      made = ap (λ (r : Result (List ℕ) TraceFault). r >>= λ enabled. Ok (choices_among chain enabled)) guards.enabled;
      commands = commands;
      size = sym (length-map choices (λ (choice : Choice). choice.commands)) ∙ ap length commands;
    }

-- choices that are not too many are those that there are
limited_few : (chain : Chain) (state : State) (choices : List Choice) → choices_of chain state ≡ Ok choices → length choices ≤ 2 ^ 48 → limited_choices chain state ≡ Ok choices
limited_few chain state choices made few =
    ap (λ (r : Result (List Choice) TraceFault). r >>= λ cs. refuse_if (nat_lt most_choices (length cs)) Choices >> Ok cs) made
    ∙ ap (λ b. refuse_if b Choices >> Ok choices) (le-ltb most_choices (length choices) few)

-- others are a fault
limited_many : (chain : Chain) (state : State) (choices : List Choice) → choices_of chain state ≡ Ok choices → 2 ^ 48 < length choices → limited_choices chain state ≡ Err Choices
limited_many chain state choices made many =
    ap (λ (r : Result (List Choice) TraceFault). r >>= λ cs. refuse_if (nat_lt most_choices (length cs)) Choices >> Ok cs) made
    ∙ ap (λ b. refuse_if b Choices >> Ok choices) (lt-ltb most_choices (length choices) many)

-- too many choices are the step's fault
pub next_many : (chain : Chain) (draw : ℕ → ℕ) (state : State) (position : ℕ) (choices : List Choice) → choices_of chain state ≡ Ok choices → 2 ^ 48 < length choices
    → Err Choices ≡ next_of chain draw (record { state = state; position = position })
next_many chain draw state position choices made many =
    sym (ap (λ r. r >>= λ step. Ok step.0)
    (choice_err chain draw state position position (Trace Choices)
    (ap (λ (r : Result (List Choice) TraceFault). r >>= λ cs. Ok (choice_of draw position cs, position + draws_for (length cs))) (limited_many chain state choices made many))))

-- no list is shorter than one without items
nothing : (choices : List Choice) → length choices ≡ 0 → choices ≡ []
nothing [] none = refl
nothing (choice ∷ choices) none = absurd (omega (arith, none))

-- without a choice the state stays
pub next_stays : (chain : Chain) (draw : ℕ → ℕ) (state : State) (position : ℕ) (choices : List Choice) → choices_of chain state ≡ Ok choices → length choices ≡ 0
    → Ok (record { state = state; position = position }) ≡ next_of chain draw (record { state = state; position = position })
next_stays chain draw state position choices made none =
    sym (ap (λ r. r >>= λ step. Ok step.0) (step_stays chain draw (record { state = state; position = position }) (made ∙ ap Ok (nothing choices none))))

pub none_made : (chain : Chain) (state : State) (choices : List Choice) → choices_of chain state ≡ Ok choices → length choices ≡ 0 → choices_of chain state ≡ Ok []
none_made chain state choices made none = made ∙ ap Ok (nothing choices none)

-- and where there is one it is not stuck
pub some_made : (chain : Chain) (state : State) (choices : List Choice) → choices_of chain state ≡ Ok choices → 0 < length choices → ¬ (choices_of chain state ≡ Ok [])
some_made chain state choices made some none =
    let same : choices ≡ [] = let both : Ok choices ≡ Ok [] = sym made ∙ none in cc in
    omega (arith, some, ap length same)

-- the commands of a choice that was found
commands_found : (found : Option Choice) (commands : List ℕ) → option_map (λ (choice : Choice). choice.commands) found ≡ Some commands → (unwrap_or found no_choice).commands ≡ commands
commands_found None commands is = absurd (cc)
commands_found (Some choice) commands is = cc

-- what a step takes of choices, and the commands of what it takes
abbrev taken_of : (ℕ → ℕ) → ℕ → List Choice → Result (Choice × ℕ) TraceFault
taken_of draw position choices = Ok (choice_of draw position choices, position + draws_for (length choices))

abbrev commands_at : Choice × ℕ → Result (List ℕ × ℕ) TraceFault
commands_at taken = Ok (taken.0.commands, taken.1)

-- the choice that is drawn, by its commands
pub chosen : (chain : Chain) (draw : ℕ → ℕ) (state : State) (position count number after : ℕ) (choices : List Choice) (lists : List (List ℕ)) (commands : List ℕ)
    → choices_of chain state ≡ Ok choices → map (λ (choice : Choice). choice.commands) choices ≡ lists → count ≡ length choices → count ≤ 2 ^ 48
    → number ≡ choice_number (draw position) count → slice_get lists number ≡ Some commands → after ≡ position + draws_for count
    → commands_taken chain draw state position ≡ Ok (commands, after)
chosen chain draw state position count number after choices lists commands made same counts few drawn found moved =
    let at : number ≡ (if is_drawn (length choices) then pick_of (draw position) (length choices) else 0) = drawn ∙ ap (choice_number (draw position)) counts in
    let read : option_map (λ (choice : Choice). choice.commands) (slice_get choices number) ≡ Some commands =
    sym (get_mapped (λ (choice : Choice). choice.commands) choices number) ∙ ap (λ ls. slice_get ls number) same ∙ found in
    let is : (choice_of draw position choices).commands ≡ commands =
    ap (λ n. (unwrap_or (slice_get choices n) no_choice).commands) (sym at) ∙ commands_found (slice_get choices number) commands read in
    ap (λ (r : Result (List Choice) TraceFault). (r >>= taken_of draw position) >>= commands_at)
    (limited_few chain state choices made (omega (arith, counts, few)))
    ∙ (λ i. Ok (is i, (ap (λ n. position + draws_for n) (sym counts) ∙ sym moved) i))

-- they are at most 64
pub chosen_few : (chain : Chain) (draw : ℕ → ℕ) (state : State) (position count number : ℕ) (choices : List Choice) (lists : List (List ℕ)) (commands : List ℕ)
    → choices_of chain state ≡ Ok choices → map (λ (choice : Choice). choice.commands) choices ≡ lists → count ≡ length choices → count ≤ 2 ^ 48
    → number ≡ choice_number (draw position) count → slice_get lists number ≡ Some commands → length commands ≤ 64
chosen_few chain draw state position count number choices lists commands made same counts few drawn found =
    let at : number ≡ (if is_drawn (length choices) then pick_of (draw position) (length choices) else 0) = drawn ∙ ap (choice_number (draw position)) counts in
    let read : option_map (λ (choice : Choice). choice.commands) (slice_get choices number) ≡ Some commands =
    sym (get_mapped (λ (choice : Choice). choice.commands) choices number) ∙ ap (λ ls. slice_get ls number) same ∙ found in
    let is : (choice_of draw position choices).commands ≡ commands =
    ap (λ n. (unwrap_or (slice_get choices n) no_choice).commands) (sym at) ∙ commands_found (slice_get choices number) commands read in
    subst (λ (cs : List ℕ). length cs ≤ 64) is (taken_few chain draw state position choices (limited_few chain state choices made (omega (arith, counts, few))))

-- what follows a choice, where its branches fault, its assignments fault, or neither does
followed : (chain : Chain) (draw : ℕ → ℕ) (state : State) (position middle : ℕ) (choice : Choice) → choice_taken chain draw state position ≡ Ok (choice, middle)
    → (branches : Result (List ℕ) TraceFault) → branches_of chain draw state middle choice.commands ≡ branches
    → next_of chain draw (record { state = state; position = position })
    ≡ (branches >>= λ bs. assigned_to chain state state (all_sets chain choice.commands bs)
    >>= λ next. Ok (record { state = next; position = middle + sum (map (command_draws chain) choice.commands) }))
followed chain draw state position middle choice taken (Err fault) is =
    ap (λ r. r >>= λ step. Ok step.0) (branches_err chain draw state position middle position choice (Trace fault) taken is)
followed chain draw state position middle choice taken (Ok branches) is =
    assigned (assigned_to chain state state (all_sets chain choice.commands branches)) refl
  where
    assigned : (made : Result State TraceFault) → assigned_to chain state state (all_sets chain choice.commands branches) ≡ made
        → next_of chain draw (record { state = state; position = position })
        ≡ (made >>= λ next. Ok (record { state = next; position = middle + sum (map (command_draws chain) choice.commands) }))
    assigned (Err fault) so =
        ap (λ r. r >>= λ step. Ok step.0) (assigned_err chain draw state position middle position choice branches (Trace fault) taken is so)
    assigned (Ok next) so =
        ap (λ r. r >>= λ step. Ok step.0)
        (stepped chain draw state next position middle (middle + sum (map (command_draws chain) choice.commands)) choice branches taken is so refl)

-- the choice behind its commands
behind : (chain : Chain) (draw : ℕ → ℕ) (state : State) (position middle : ℕ) (commands : List ℕ) (taken : Result (Choice × ℕ) TraceFault)
    → choice_taken chain draw state position ≡ taken → (taken >>= commands_at) ≡ Ok (commands, middle)
    → next_of chain draw (record { state = state; position = position }) ≡ after_commands chain draw state (commands, middle)
behind chain draw state position middle commands (Err fault) is taken = absurd (cc)
behind chain draw state position middle commands (Ok (choice, place)) is taken =
    let same : (choice.commands, place) ≡ (commands, middle) = cc in
    followed chain draw state position place choice is (branches_of chain draw state place choice.commands) refl
    ∙ ap (after_commands chain draw state) same

-- a step is what follows the commands of its choice
pub next_after : (chain : Chain) (draw : ℕ → ℕ) (state : State) (position middle : ℕ) (commands : List ℕ)
    → commands_taken chain draw state position ≡ Ok (commands, middle)
    → next_of chain draw (record { state = state; position = position }) ≡ after_commands chain draw state (commands, middle)
next_after chain draw state position middle commands taken =
    behind chain draw state position middle commands (choice_taken chain draw state position) refl taken

-- so is what came of them
pub came_of_choice : (chain : Chain) (draw later : ℕ → ℕ) (state : State) (position middle : ℕ) (commands written : List ℕ) (made : Result Configuration TraceFault)
    → commands_taken chain draw state position ≡ Ok (commands, middle) → later ≡ draw → written ≡ commands → made ≡ after_commands chain later state (written, middle)
    → made ≡ next_of chain draw (record { state = state; position = position })
came_of_choice chain draw later state position middle commands written made taken same wrote came =
    came ∙ (λ i. after_commands chain (same i) state (wrote i, middle)) ∙ sym (next_after chain draw state position middle commands taken)

-- how many choices there are by their count
pub count_is : (alone first : List ℕ) (joint second : List (List (List ℕ))) (p : ℕ → Bool) (count size : ℕ) → first ≡ alone → second ≡ joint
    → count ≡ min (length (choice_lists p first second)) (2 ^ 48 + 1) → size ≡ length (choice_lists p alone joint) → count ≡ min size (2 ^ 48 + 1)
count_is alone first joint second p count size a b is sized =
    is ∙ (λ i. min (length (choice_lists p (a i) (b i))) (2 ^ 48 + 1)) ∙ ap (λ n. min n (2 ^ 48 + 1)) (sym sized)

-- a move leads to a state of the chain, or stays in one
pub keeps : {X : Type 0} (chain : Chain) (draw : ℕ → ℕ) (state after : State) (position place : ℕ) (result : Result X TraceFault) → IsState chain state
    → came result after place ≡ next_of chain draw (record { state = state; position = position }) → OnErr result (after ≡ state) → IsState chain after
keeps chain draw state after position place (Err fault) is came_so stays = subst (IsState chain) (sym stays) is
keeps chain draw state after position place (Ok moved) is came_so stays =
    made (step_of chain draw (record { state = state; position = position })) (step_keeps chain draw (record { state = state; position = position }) is) came_so
  where
    made : (r : Result (Configuration × Taken) TraceFault) → IfOk r (λ step. IsState chain step.0.state) → Ok (record { state = after; position = place }) ≡ (r >>= λ step. Ok step.0)
        → IsState chain after
    made (Err fault) ranges same = absurd (cc)
    made (Ok step) ranges same = let one : step.0.state ≡ after = cc in subst (IsState chain) one ranges
