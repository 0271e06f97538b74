-- How the report of a trace goes on, state by state, and that it stops with the first state that isn't made.
use Rattle.std.proofs.Common.{◌≡◌, ℕ, zero, suc, ◌<◌, ◌≤◌, List, [], ◌++◌, Result, Ok, Err, inl, inr, refl, sym, ap, ◌∙◌, append_assoc, arith}
use Rattle.std.proofs.lemmas.Bool.{cases_lt}
use Rattle.std.proofs.lemmas.List.{append-nil}
use Rattle.chain_model.specs.declared.outcome.TraceFault.{TraceFault}
use Rattle.chain_model.specs.declared.chain.Chain.{Chain}
use Rattle.chain_model.specs.declared.steps.Taken.{Taken}
use Rattle.chain_model.specs.Results.{◌>>=◌}
use Rattle.chain_model.specs.States.{initial_of}
use Rattle.chain_model.specs.Step.{Configuration, step_of}
use Rattle.trace_report.specs.States.{configuration_after, draws_taken}
use Rattle.trace_report.specs.Lines.{state_line, draws_line}
use Rattle.trace_report.specs.Report.{lines_from, lines_before, trace_text}

-- a state is not made, and from there on no state is made, no line is told, and no draw is taken
record Stopped (chain : Chain) (draw : ℕ → ℕ) (k n : ℕ) (fault : TraceFault) : Type 0 where
  none : configuration_after chain draw n ≡ Err fault
  lines : lines_before chain draw n ≡ lines_before chain draw k
  draws : draws_taken chain draw n ≡ draws_taken chain draw k

-- the state after one that is not made
faulty_next : (chain : Chain) (draw : ℕ → ℕ) (n : ℕ) (fault : TraceFault) → configuration_after chain draw n ≡ Err fault
    → configuration_after chain draw (suc n) ≡ Err fault
unfolding configuration_after
faulty_next chain draw n fault none = rw none refl

-- the lines after a state that is not made
no_lines : (chain : Chain) (draw : ℕ → ℕ) (n : ℕ) (fault : TraceFault) → configuration_after chain draw n ≡ Err fault
    → lines_before chain draw (suc n) ≡ lines_before chain draw n
unfolding lines_before
no_lines chain draw n fault none = rw none (append-nil _)

-- the draws after a state that is not made
no_draws : (chain : Chain) (draw : ℕ → ℕ) (n : ℕ) (fault : TraceFault)
    → configuration_after chain draw (suc n) ≡ Err fault → draws_taken chain draw (suc n) ≡ draws_taken chain draw n
unfolding draws_taken
no_draws chain draw n fault none = rw none refl

-- one more state is not made
one_more : (chain : Chain) (draw : ℕ → ℕ) (k n : ℕ) (fault : TraceFault) → Stopped chain draw k n fault
    → Stopped chain draw k (suc n) fault
one_more chain draw k n fault before =
    let none : configuration_after chain draw (suc n) ≡ Err fault = faulty_next chain draw n fault before.none in
    record {
      none = none;
      lines = no_lines chain draw n fault before.none ∙ before.lines;
      draws = no_draws chain draw n fault none ∙ before.draws;
    }

-- at the state itself
at_once : (chain : Chain) (draw : ℕ → ℕ) (k n : ℕ) (fault : TraceFault) → n ≡ k
    → configuration_after chain draw k ≡ Err fault → Stopped chain draw k n fault
at_once chain draw k n fault same faults = record {
  none = ap (configuration_after chain draw) same ∙ faults;
  lines = ap (lines_before chain draw) same;
  draws = ap (draws_taken chain draw) same;
}

-- after a state that is not made all stops
stops : (chain : Chain) (draw : ℕ → ℕ) (k n : ℕ) (fault : TraceFault) → k ≤ n
    → configuration_after chain draw k ≡ Err fault → Stopped chain draw k n fault
stops chain draw k zero fault within faults = at_once chain draw k zero fault (omega arith) faults
stops chain draw k (suc n) fault within faults =
    elim (cases_lt n k) [
      | inl past ↦ at_once chain draw k (suc n) fault (omega arith) faults
      | inr before ↦ one_more chain draw k n fault (stops chain draw k n fault before faults)
    ]

-- the state after a step
next_state : (chain : Chain) (draw : ℕ → ℕ) (k : ℕ) (from : Configuration) (made : Result Configuration TraceFault)
    → configuration_after chain draw k ≡ Ok from → (step_of chain draw from >>= λ step. Ok step.0) ≡ made
    → configuration_after chain draw (suc k) ≡ made
unfolding configuration_after
next_state chain draw k from made here step = rw here step

-- the lines after a state that was made
next_lines : (chain : Chain) (draw : ℕ → ℕ) (k : ℕ) (from : Configuration) → configuration_after chain draw k ≡ Ok from
    → lines_before chain draw (suc k) ≡ lines_before chain draw k ++ lines_from chain draw k from
unfolding lines_before
next_lines chain draw k from here = rw here refl

-- a trace has come so far: the lines before this state are told, the state was made, and so many draws were taken
pub record IsTold (chain : Chain) (draw : ℕ → ℕ) (k : ℕ) (from : Configuration) (told : List ℕ) : Type 0 where
  pub lines : told ≡ lines_before chain draw k
  pub here : configuration_after chain draw k ≡ Ok from
  pub draws : draws_taken chain draw k ≡ from.position

-- a trace begins with its initial state
pub told_first : (chain : Chain) (draw : ℕ → ℕ)
    → IsTold chain draw 0 (record { state = initial_of chain; position = 0 }) []
unfolding configuration_after lines_before draws_taken
told_first chain draw = record { lines = refl; here = refl; draws = refl }

-- a step leads to the next state
pub told_next : (chain : Chain) (draw : ℕ → ℕ) (k : ℕ) (from next : Configuration) (taken : Taken) (told : List ℕ)
    → IsTold chain draw k from told → step_of chain draw from ≡ Ok (next, taken)
    → IsTold chain draw (suc k) next (told ++ lines_from chain draw k from)
unfolding draws_taken
told_next chain draw k from next taken told so_far step =
    let made : (step_of chain draw from >>= λ step. Ok step.0) ≡ Ok next = rw step refl in
    let here : configuration_after chain draw (suc k) ≡ Ok next =
    next_state chain draw k from (Ok next) so_far.here made in
    record {
      lines =
          ap (λ text. text ++ lines_from chain draw k from) so_far.lines
          ∙ sym (next_lines chain draw k from so_far.here);
      here = here;
      draws = rw here refl;
    }

-- a trace that came to its last state is told whole
pub told_whole : (chain : Chain) (draw : ℕ → ℕ) (steps : ℕ) (from : Configuration) (told : List ℕ)
    → IsTold chain draw steps from told
    → (told ++ state_line chain steps from.state) ++ draws_line from.position ≡ trace_text chain draw steps
told_whole chain draw steps from told so_far =
    append_assoc told (state_line chain steps from.state) (draws_line from.position)
    ∙ rw (so_far.lines, so_far.here, so_far.draws) refl

-- a trace that stopped with a fault is told whole
pub told_fault : (chain : Chain) (draw : ℕ → ℕ) (k steps : ℕ) (from : Configuration) (fault : TraceFault)
    (told : List ℕ) → IsTold chain draw k from told → step_of chain draw from ≡ Err fault → k < steps
    → (told ++ lines_from chain draw k from) ++ draws_line from.position ≡ trace_text chain draw steps
told_fault chain draw k steps from fault told so_far step within =
    let made : (step_of chain draw from >>= λ step. Ok step.0) ≡ Err fault = rw step refl in
    let faults : configuration_after chain draw (suc k) ≡ Err fault =
    next_state chain draw k from (Err fault) so_far.here made in
    let stopped : Stopped chain draw (suc k) steps fault = stops chain draw (suc k) steps fault (omega arith) faults in
    let lines : lines_before chain draw steps ≡ told ++ lines_from chain draw k from =
    stopped.lines ∙ next_lines chain draw k from so_far.here
    ∙ ap (λ text. text ++ lines_from chain draw k from) (sym so_far.lines) in
    let draws : draws_taken chain draw steps ≡ from.position =
    stopped.draws ∙ no_draws chain draw k fault faults ∙ so_far.draws in
    rw (lines, stopped.none, draws) refl

-- and its last state was not made
pub fault_ends : (chain : Chain) (draw : ℕ → ℕ) (k steps : ℕ) (from : Configuration) (fault : TraceFault)
    (told : List ℕ) → IsTold chain draw k from told → step_of chain draw from ≡ Err fault → k < steps
    → configuration_after chain draw steps ≡ Err fault
fault_ends chain draw k steps from fault told so_far step within =
    let made : (step_of chain draw from >>= λ step. Ok step.0) ≡ Err fault = rw step refl in
    let faults : configuration_after chain draw (suc k) ≡ Err fault =
    next_state chain draw k from (Err fault) so_far.here made in
    (stops chain draw (suc k) steps fault (omega arith) faults).none
