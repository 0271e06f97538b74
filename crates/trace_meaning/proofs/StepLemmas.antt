-- A step from its parts: the choice, the branches, and what they assign.
use Rattle.std.proofs.Common.{◌≡◌, ℕ, ◌+◌, ◌≤◌, List, length, map, Bool, true, false, refl, sym, ap, ◌∙◌, subst, inl, inr, arith, nat_lt}
use Rattle.std.specs.Prelude.{Result, Ok, Err, sum, unwrap_or, if◌then◌else◌}
use Rattle.std.specs.List.{Contains}
use Rattle.std.proofs.Math.Nat.{add_assoc}
use Rattle.std.proofs.lemmas.Option.{slice_get_cases, get_or_from_slice_get}
use Rattle.trace_streams.specs.Pick.{pick_of}
use Rattle.chain_model.specs.declared.outcome.TraceFault.{TraceFault}
use Rattle.chain_model.specs.declared.outcome.TraceFault.TheVariants.{Choices}
use Rattle.chain_model.specs.declared.chain.Chain.{Chain}
use Rattle.chain_model.specs.declared.steps.Choice.{Choice}
use Rattle.chain_model.specs.declared.steps.Taken.{Taken}
use Rattle.chain_model.specs.Limits.{most_choices}
use Rattle.chain_model.specs.Results.{◌>>=◌, ◌>>◌, refuse_if, each}
use Rattle.chain_model.specs.States.{State}
use Rattle.chain_model.specs.Choices.{choices_of}
use Rattle.chain_model.specs.Step.{Configuration, no_choice, choice_of, is_drawn, draws_for, command_draws, branches_of, assignment_of, all_sets, after_assignments, step_of}
use Rattle.chain_model.proofs.DrawLemmas.{choices_few}
use Rattle.trace_meaning.specs.declared.fault.StepFault.{StepFault}
use Rattle.trace_meaning.specs.declared.fault.StepFault.TheVariants.{Trace, OutOfMemory}
use Rattle.trace_meaning.specs.Assigning.{assigned_to}
use Rattle.trace_meaning.specs.Counted.{limited_choices}
use Rattle.trace_meaning.specs.Gives.{Gives}
use Rattle.trace_meaning.specs.Stepped.{choice_taken, GivesStep}
use Rattle.trace_meaning.proofs.AssignmentLemmas.{bind_assoc, bind_same}

-- choices that are not refused are those that there are
not_refused : (test : Bool) (choices xs : List Choice) → (refuse_if test Choices >> Ok choices) ≡ Ok xs → choices ≡ xs
not_refused true choices xs is = absurd (cc)
not_refused false choices xs is = cc

-- so choices that are not too many are all that there are
all_choices : (read : Result (List Choice) TraceFault) (xs : List Choice)
    → (read >>= λ choices. refuse_if (nat_lt most_choices (length choices)) Choices >> Ok choices) ≡ Ok xs → read ≡ Ok xs
all_choices (Err fault) xs is = absurd (cc)
all_choices (Ok choices) xs is = ap Ok (not_refused (nat_lt most_choices (length choices)) choices xs is)

-- the choice that is taken has at most 64 commands
pub taken_few : (chain : Chain) (draw : ℕ → ℕ) (state : State) (position : ℕ) (choices : List Choice) → limited_choices chain state ≡ Ok choices
    → length (choice_of draw position choices).commands ≤ 64
taken_few chain draw state position choices made =
    let n : ℕ = if is_drawn (length choices) then pick_of (draw position) (length choices) else 0 in
    let all : choices_of chain state ≡ Ok choices = all_choices (choices_of chain state) choices made in
    elim (slice_get_cases choices n).1 [
      | inl there ↦
          let within : Contains choices there.0 = (n, there.1, get_or_from_slice_get choices n there.0 there.0 there.2) in
          subst (λ o. length (unwrap_or o no_choice).commands ≤ 64) (sym there.2) (choices_few chain state choices all there.0 within)
      | inr past ↦ subst (λ o. length (unwrap_or o no_choice).commands ≤ 64) (sym past.1) (omega arith)
    ]

-- what follows the choice, by the draws from a position on
after_choice : Chain → (ℕ → ℕ) → State → Choice × ℕ → Result (Configuration × Taken) TraceFault
after_choice chain draw state taken =
    branches_of chain draw state taken.1 taken.0.commands >>= λ branches. assigned_to chain state state (all_sets chain taken.0.commands branches)
    >>= λ next. Ok (record { state = next; position = taken.1 + sum (map (command_draws chain) taken.0.commands) }, record { choice = taken.0; branches = branches })

-- what follows a test, in one or in two parts
by_test : {A B C : Type 0} (test : Bool) (fault : TraceFault) (x : A) (f : Result C TraceFault) (k : A → B) (g : B → Result C TraceFault) → f ≡ g (k x)
    → (refuse_if test fault >> f) ≡ (((refuse_if test fault >> Ok x) >>= λ y. Ok (k y)) >>= g)
by_test true fault x f k g same = refl
by_test false fault x f k g same = same

-- what follows the choices, in one or in two parts
by_choices : {B C : Type 0} (read : Result (List Choice) TraceFault) (f : List Choice → Result C TraceFault) (k : List Choice → B) (g : B → Result C TraceFault)
    → ((choices : List Choice) → f choices ≡ g (k choices))
    → (read >>= λ choices. refuse_if (nat_lt most_choices (length choices)) Choices >> f choices)
    ≡ (((read >>= λ choices. refuse_if (nat_lt most_choices (length choices)) Choices >> Ok choices) >>= λ choices. Ok (k choices)) >>= g)
by_choices (Err fault) f k g same = refl
by_choices (Ok choices) f k g same = by_test (nat_lt most_choices (length choices)) Choices choices (f choices) k g (same choices)

-- a step is its choice and what follows it
step_is : (chain : Chain) (draw : ℕ → ℕ) (state : State) (position : ℕ)
    → step_of chain draw (record { state = state; position = position }) ≡ (choice_taken chain draw state position >>= after_choice chain draw state)
unfolding step_of after_choice
step_is chain draw state position =
    by_choices (choices_of chain state) _ (λ choices. (choice_of draw position choices, position + draws_for (length choices))) (after_choice chain draw state)
    (λ choices.
    let choice : Choice = choice_of draw position choices in
    bind_same (branches_of chain draw state (position + draws_for (length choices)) choice.commands) _ _
    (λ branches.
    ap (λ (p : ℕ). each (assignment_of chain state) (all_sets chain choice.commands branches) >>= λ assigned. Ok (record { state = after_assignments state assigned; position = p }, record { choice = choice; branches = branches }))
    (sym (add_assoc position (draws_for (length choices)) (sum (map (command_draws chain) choice.commands))))
    ∙ bind_assoc (each (assignment_of chain state) (all_sets chain choice.commands branches)) (λ assigned. Ok (after_assignments state assigned))
    (λ next. Ok (record { state = next; position = (position + draws_for (length choices)) + sum (map (command_draws chain) choice.commands) }, record { choice = choice; branches = branches }))))

-- a choice that faults is the step's fault
pub choice_err : (chain : Chain) (draw : ℕ → ℕ) (state : State) (position stop : ℕ) (fault : StepFault)
    → Gives {X = Choice × ℕ} (Err fault) (choice_taken chain draw state position)
    → GivesStep (Err fault) stop (step_of chain draw (record { state = state; position = position }))
choice_err chain draw state position stop (Trace fault) is = step_is chain draw state position ∙ ap (λ (r : Result (Choice × ℕ) TraceFault). r >>= after_choice chain draw state) is
choice_err chain draw state position stop (OutOfMemory error) is = tt

-- the step after its choice
chosen : (chain : Chain) (draw : ℕ → ℕ) (state : State) (position : ℕ) (taken : Choice × ℕ) → choice_taken chain draw state position ≡ Ok taken
    → step_of chain draw (record { state = state; position = position }) ≡ after_choice chain draw state taken
chosen chain draw state position taken is =
    step_is chain draw state position ∙ ap (λ (r : Result (Choice × ℕ) TraceFault). r >>= after_choice chain draw state) is

-- branches that fault are the step's fault
pub branches_err : (chain : Chain) (draw : ℕ → ℕ) (state : State) (position middle stop : ℕ) (choice : Choice) (fault : StepFault)
    → choice_taken chain draw state position ≡ Ok (choice, middle)
    → Gives {X = List ℕ} (Err fault) (branches_of chain draw state middle choice.commands)
    → GivesStep (Err fault) stop (step_of chain draw (record { state = state; position = position }))
unfolding after_choice
branches_err chain draw state position middle stop choice (Trace fault) taken is =
    chosen chain draw state position (choice, middle) taken
    ∙ ap (λ (r : Result (List ℕ) TraceFault). r >>= λ branches. assigned_to chain state state (all_sets chain choice.commands branches)
    >>= λ next. Ok (record { state = next; position = middle + sum (map (command_draws chain) choice.commands) }, record { choice = choice; branches = branches })) is
branches_err chain draw state position middle stop choice (OutOfMemory error) taken is = tt

-- the step after its branches
branched : (chain : Chain) (draw : ℕ → ℕ) (state : State) (position middle : ℕ) (choice : Choice) (branches : List ℕ) (made : Result State TraceFault)
    → choice_taken chain draw state position ≡ Ok (choice, middle)
    → branches_of chain draw state middle choice.commands ≡ Ok branches
    → assigned_to chain state state (all_sets chain choice.commands branches) ≡ made
    → step_of chain draw (record { state = state; position = position })
    ≡ (made >>= λ next. Ok (record { state = next; position = middle + sum (map (command_draws chain) choice.commands) }, record { choice = choice; branches = branches }))
unfolding after_choice
branched chain draw state position middle choice branches made taken is assigned =
    chosen chain draw state position (choice, middle) taken
    ∙ ap (λ (r : Result (List ℕ) TraceFault). r >>= λ bs. assigned_to chain state state (all_sets chain choice.commands bs)
    >>= λ next. Ok (record { state = next; position = middle + sum (map (command_draws chain) choice.commands) }, record { choice = choice; branches = bs })) is
    ∙ ap (λ (r : Result State TraceFault). r >>= λ next. Ok (record { state = next; position = middle + sum (map (command_draws chain) choice.commands) }, record { choice = choice; branches = branches })) assigned

-- right sides that fault are the step's fault
pub assigned_err : (chain : Chain) (draw : ℕ → ℕ) (state : State) (position middle stop : ℕ) (choice : Choice) (branches : List ℕ) (fault : StepFault)
    → choice_taken chain draw state position ≡ Ok (choice, middle)
    → branches_of chain draw state middle choice.commands ≡ Ok branches
    → Gives {X = State} (Err fault) (assigned_to chain state state (all_sets chain choice.commands branches))
    → GivesStep (Err fault) stop (step_of chain draw (record { state = state; position = position }))
assigned_err chain draw state position middle stop choice branches (Trace fault) taken is assigned =
    branched chain draw state position middle choice branches (Err fault) taken is assigned
assigned_err chain draw state position middle stop choice branches (OutOfMemory error) taken is assigned = tt

-- others are a step
pub stepped : (chain : Chain) (draw : ℕ → ℕ) (state next : State) (position middle stop : ℕ) (choice : Choice) (branches : List ℕ)
    → choice_taken chain draw state position ≡ Ok (choice, middle)
    → branches_of chain draw state middle choice.commands ≡ Ok branches
    → assigned_to chain state state (all_sets chain choice.commands branches) ≡ Ok next
    → stop ≡ middle + sum (map (command_draws chain) choice.commands)
    → step_of chain draw (record { state = state; position = position })
    ≡ Ok (record { state = next; position = stop }, record { choice = choice; branches = branches })
stepped chain draw state next position middle stop choice branches taken is assigned stops =
    branched chain draw state position middle choice branches (Ok next) taken is assigned
    ∙ ap (λ (p : ℕ). Ok (record { state = next; position = p }, record { choice = choice; branches = branches })) (sym stops)
