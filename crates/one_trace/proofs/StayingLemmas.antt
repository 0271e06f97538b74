-- A trace in a state without a choice stays there, and has one pair for ever.
use Rattle.std.proofs.Common.{◌≡◌, ℕ, zero, suc, ◌+◌, Bool, true, false, List, [], ◌∷◌, ◌++◌, ◌<◌, length, take, replicate, sym, ◌∙◌, ap, subst, arith, zero-add, length-append}
use Rattle.std.specs.Prelude.{Result, Ok}
use Rattle.std.proofs.lemmas.List.{append-nil, length-replicate}
use Rattle.trace_streams.specs.Draws.{draw_at, Place}
use Rattle.chain_model.specs.declared.chain.Chain.{Chain}
use Rattle.chain_model.specs.declared.job.Job.{Job}
use Rattle.chain_model.specs.declared.job.PathKind.{PathKind}
use Rattle.chain_model.specs.declared.steps.Taken.{Taken}
use Rattle.chain_model.specs.declared.outcome.TraceFault.{TraceFault}
use Rattle.chain_model.specs.declared.outcome.Outcome.{Outcome}
use Rattle.chain_model.specs.declared.outcome.Outcome.TheVariants.{True, False, Fault}
use Rattle.chain_model.specs.Results.{◌>>=◌}
use Rattle.chain_model.specs.States.{State}
use Rattle.chain_model.specs.Choices.{choices_of}
use Rattle.chain_model.specs.Step.{Configuration, no_choice, step_of}
use Rattle.chain_model.specs.Trace.{Pair, configuration_at, pair_at}
use Rattle.chain_model.specs.Settling.{Settles}
use Rattle.chain_model.specs.Outcome.{AreFirstPairs, HasValue, IsOutcome}
use Rattle.path_monitor.specs.declared.monitor.Monitor.{Monitor}
use Rattle.path_monitor.specs.Watching.{HasSeen}
use Rattle.one_trace.specs.Underway.{IsVisited}
use Rattle.one_trace.specs.Standing.{SettlesAgain, StandsFor}
use Rattle.one_trace.proofs.StandingLemmas.{one_more}
use Rattle.one_trace.proofs.UnderwayLemmas.{pair_here, first_with_here, none_shorter}

-- a trace stays where a step leaves it
stays : (job : Job) (trace step : ℕ) (from : Configuration) (taken : Taken) → configuration_at job trace step ≡ Ok from
    → step_of job.chain (draw_at job.seed trace) from ≡ Ok (from, taken)
    → (more : ℕ) → configuration_at job trace (more + step) ≡ Ok from
unfolding configuration_at
stays job trace step from taken at still zero = ap (configuration_at job trace) (zero-add step) ∙ at
stays job trace step from taken at still (suc more) =
    let number : suc more + step ≡ suc (more + step) = omega arith in
    ap (configuration_at job trace) number
    ∙ (ap (λ (c : Result Configuration TraceFault). c >>= λ f. step_of job.chain (draw_at job.seed trace) f >>= λ s. Ok s.0) (stays job trace step from taken at still more)
    ∙ ap (λ (s : Result (Configuration × Taken) TraceFault). s >>= λ t. Ok t.0) still)

-- the first pairs, and one pair again and again
first_again : (job : Job) (trace : ℕ) (pairs : List Pair) (pair : Pair) → AreFirstPairs job trace pairs
    → ((more : ℕ) → pair_at job trace (more + length pairs) ≡ Ok pair)
    → (n : ℕ) → AreFirstPairs job trace (pairs ++ replicate n pair)
first_again job trace pairs pair first again zero = subst (AreFirstPairs job trace) (sym (append-nil pairs)) first
first_again job trace pairs pair first again (suc n) =
    let added : length (pairs ++ replicate n pair) ≡ length pairs + length (replicate n pair) = length-append pairs (replicate n pair) in
    let count : length (replicate n pair) ≡ n = length-replicate n pair in
    let number : length (pairs ++ replicate n pair) ≡ n + length pairs = omega (arith, added, count) in
    let last : n + 1 ≡ suc n = omega arith in
    subst (AreFirstPairs job trace) (one_more pairs pair n ∙ ap (λ (k : ℕ). pairs ++ replicate k pair) last)
    (first_with_here job trace (n + length pairs) (pairs ++ replicate n pair) pair number
    (first_again job trace pairs pair first again n) (again n))

-- the value of a trace whose pair stays
value_again : (job : Job) (trace : ℕ) (pairs : List Pair) (pair : Pair) (truth : Bool) → AreFirstPairs job trace pairs
    → ((more : ℕ) → pair_at job trace (more + length pairs) ≡ Ok pair)
    → SettlesAgain job.path.kind pairs pair truth → HasValue job trace truth
value_again job trace pairs pair truth first again settles =
    let n : ℕ = settles.more in
    let last : n + 1 ≡ suc n = omega arith in
    let joined : (pairs ++ replicate n pair) ++ (pair ∷ []) ≡ pairs ++ replicate (suc n) pair =
    one_more pairs pair n ∙ ap (λ (k : ℕ). pairs ++ replicate k pair) last in
    record {
      pairs = pairs ++ replicate (suc n) pair;
      first = first_again job trace pairs pair first again (suc n);
      settled = settles.settled;
      shortest = subst (λ (ps : List Pair). (m : ℕ) (t : Bool) → m < length ps → ¬ Settles job.path.kind (take m ps) t) joined
          (none_shorter job (pairs ++ replicate n pair) pair settles.before);
    }

-- the outcome of a trace whose pair stays
outcome_again : (job : Job) (trace : ℕ) (pairs : List Pair) (pair : Pair) (outcome : Outcome) → AreFirstPairs job trace pairs
    → ((more : ℕ) → pair_at job trace (more + length pairs) ≡ Ok pair)
    → StandsFor job.path.kind pairs pair outcome → IsOutcome job trace outcome
outcome_again job trace pairs pair True first again stands = value_again job trace pairs pair true first again stands
outcome_again job trace pairs pair False first again stands = value_again job trace pairs pair false first again stands
outcome_again job trace pairs pair (Fault step fault) first again stands = absurd stands

-- the outcome of a trace in a state without a choice
pub stays_for_ever : (job : Job) (trace step : ℕ) (monitor : Monitor) (state : State) (draws : Place) (pair : Pair) (outcome : Outcome)
    → IsVisited job trace step monitor state draws pair → choices_of job.chain state ≡ Ok []
    → ((chain : Chain) (draw : ℕ → ℕ) (from : Configuration) → choices_of chain from.state ≡ Ok []
    → step_of chain draw from ≡ Ok (from, record { choice = no_choice; branches = [] }))
    → ((pairs : List Pair) → HasSeen monitor pairs → StandsFor monitor.kind pairs pair outcome)
    → IsOutcome job trace outcome
stays_for_ever job trace step monitor state draws pair outcome visited none still stands =
    let from : Configuration = record { state = state; position = draws.place } in
    let pairs : List Pair = visited.pairs ++ (pair ∷ []) in
    let many = visited.many in
    let added : length pairs ≡ length visited.pairs + 1 = length-append visited.pairs (pair ∷ []) in
    let here : (more : ℕ) → pair_at job trace (more + step) ≡ Ok pair = λ more.
    pair_here job trace (more + step) state draws.place (Ok pair)
    (stays job trace step from (record { choice = no_choice; branches = [] }) visited.at (still job.chain (draw_at job.seed trace) from none) more)
    (sym visited.here) in
    outcome_again job trace pairs pair outcome
    (first_with_here job trace step visited.pairs pair many visited.first (ap (pair_at job trace) (sym (zero-add step)) ∙ here 0))
    (λ more.
    let number : more + length pairs ≡ suc more + step = omega (arith, many, added) in
    ap (pair_at job trace) number ∙ here (suc more))
    (subst (λ (k : PathKind). StandsFor k pairs pair outcome) visited.kind (stands pairs visited.seen))
