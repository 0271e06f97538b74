-- A trace on its way, from state to state.
use Rattle.std.proofs.Common.{◌≡◌, ℕ, zero, suc, ◌+◌, ◌<◌, ◌≤◌, Bool, List, [], ◌∷◌, ◌++◌, length, take, drop, refl, sym, ◌∙◌, ap, subst, arith, add-one, length-append}
use Rattle.std.specs.Prelude.{Some, Result, Ok, Err, IfOk, slice_get}
use Rattle.std.proofs.lemmas.List.{append_assoc, take-append-le, take-append-drop}
use Rattle.std.proofs.lemmas.Option.{none-some, same_Some}
use Rattle.trace_streams.specs.Draws.{draw_at, Place}
use Rattle.chain_model.specs.declared.job.Job.{Job}
use Rattle.chain_model.specs.declared.job.PathKind.{PathKind}
use Rattle.chain_model.specs.declared.steps.Taken.{Taken}
use Rattle.chain_model.specs.declared.outcome.TraceFault.{TraceFault}
use Rattle.chain_model.specs.Paths.{horizon_of}
use Rattle.chain_model.specs.States.{State, IsState, initial_of}
use Rattle.chain_model.specs.Results.{◌>>=◌}
use Rattle.chain_model.specs.Step.{Configuration, step_of}
use Rattle.chain_model.specs.Trace.{Pair, configuration_at, pair_of, pair_at}
use Rattle.chain_model.specs.Settling.{Settles, Holds, HasTruth}
use Rattle.chain_model.specs.Outcome.{AreFirstPairs, NoneSettles, HasValue, HasFault}
use Rattle.path_monitor.specs.declared.monitor.Monitor.{Monitor}
use Rattle.path_monitor.specs.Watching.{HasSeen, IsOpen}
use Rattle.successors.specs.Moves.{next_of}
use Rattle.one_trace.specs.Underway.{IsUnderway, IsVisited}

-- a trace starts in the initial state, with no pair seen
pub underway_start : (job : Job) (trace : ℕ) (monitor : Monitor) (state : State) (draws : Place)
    → state ≡ initial_of job.chain → IsState job.chain state → draws ≡ record { seed = job.seed; trace = trace; place = 0 }
    → monitor.kind ≡ job.path.kind → HasSeen monitor []
    → IsUnderway job trace 0 monitor state draws
unfolding configuration_at
underway_start job trace monitor state draws start fits stream kind seen =
    let none : draws.place ≡ 0 = ap (λ (p : Place). p.place) stream in
    record {
      pairs = [];
      many = refl;
      at = ap (λ (s : State). Ok (record { state = s; position = 0 })) (sym start)
          ∙ ap (λ (p : ℕ). Ok (record { state = state; position = p })) (sym none);
      stream = stream ∙ ap (λ (p : ℕ). record { seed = job.seed; trace = trace; place = p }) (sym none);
      few = omega (arith, none);
      fits = fits;
      first = λ k pair there. absurd (none-some pair there);
      kind = kind;
      seen = seen;
    }

-- the pair of the state that a trace has come to
pub pair_here : (job : Job) (trace step : ℕ) (state : State) (place : ℕ) (pair : Result Pair TraceFault)
    → configuration_at job trace step ≡ Ok (record { state = state; position = place }) → pair ≡ pair_of job state
    → pair_at job trace step ≡ pair
unfolding pair_at
pair_here job trace step state place pair at is = ap (λ (c : Result Configuration TraceFault). c >>= λ from. pair_of job from.state) at ∙ sym is

-- the first values of a function, and the next one
pub front_with : {X E : Type 0} (f : ℕ → Result X E) (xs : List X) (y : X) → ((k : ℕ) (x : X) → slice_get xs k ≡ Some x → f k ≡ Ok x)
    → f (length xs) ≡ Ok y → (k : ℕ) (x : X) → slice_get (xs ++ (y ∷ [])) k ≡ Some x → f k ≡ Ok x
front_with f [] y first next zero x there = next ∙ ap Ok (same_Some y x there)
front_with f [] y first next (suc k) x there = absurd (none-some x there)
front_with f (z ∷ xs) y first next zero x there = first zero x there
front_with {X} {E} f (z ∷ xs) y first next (suc k) x there =
    front_with {X = X} {E = E} (λ j. f (suc j)) xs y (λ j w e. first (suc j) w e) next k x there

-- the first pairs with that of the state that a trace has come to
pub first_with_here : (job : Job) (trace step : ℕ) (pairs : List Pair) (pair : Pair) → length pairs ≡ step
    → AreFirstPairs job trace pairs → pair_at job trace step ≡ Ok pair → AreFirstPairs job trace (pairs ++ (pair ∷ []))
first_with_here job trace step pairs pair many first here =
    front_with (pair_at job trace) pairs pair first (ap (pair_at job trace) many ∙ here)

-- the trace has seen this pair too
pub visited : (job : Job) (trace step : ℕ) (monitor next : Monitor) (state : State) (draws : Place) (pair : Pair)
    → IsUnderway job trace step monitor state draws → Ok pair ≡ pair_of job state → next.kind ≡ monitor.kind
    → ((pairs : List Pair) → HasSeen monitor pairs → HasSeen next (pairs ++ (pair ∷ [])))
    → IsVisited job trace step next state draws pair
visited job trace step monitor next state draws pair underway is same more = record {
  pairs = underway.pairs;
  many = underway.many;
  at = underway.at;
  stream = underway.stream;
  few = underway.few;
  fits = underway.fits;
  first = underway.first;
  here = sym is;
  kind = same ∙ underway.kind;
  seen = more underway.pairs underway.seen;
}

-- pairs that settle a formula settle it whatever follows them
settles_longer : (kind : PathKind) (pairs more : List Pair) (truth : Bool) → Settles kind pairs truth → Settles kind (pairs ++ more) truth
settles_longer kind pairs more truth settled = λ rest long.
    let joined : (pairs ++ more) ++ rest ≡ pairs ++ (more ++ rest) = append_assoc pairs more rest in
    subst (λ (ps : List Pair). HasTruth truth (Holds kind ps)) (sym joined)
    (settled (more ++ rest) (subst (λ (ps : List Pair). horizon_of kind < length ps) joined long))

-- where pairs settle nothing, no prefix of them does
pub open_before : (kind : PathKind) (pairs : List Pair) (m : ℕ) (truth : Bool) → IsOpen kind pairs → ¬ Settles kind (take m pairs) truth
open_before kind pairs m truth unsettled early =
    unsettled truth (subst (λ (ps : List Pair). Settles kind ps truth) (take-append-drop m pairs) (settles_longer kind (take m pairs) (drop m pairs) truth early))

-- of pairs that settle nothing and one more, no shorter prefix settles anything
pub none_shorter : (job : Job) (pairs : List Pair) (pair : Pair) → IsOpen job.path.kind pairs → NoneSettles job (pairs ++ (pair ∷ [])) (length (pairs ++ (pair ∷ [])))
none_shorter job pairs pair unsettled = λ m truth less early.
    let one_more : length (pairs ++ (pair ∷ [])) ≡ length pairs + 1 = length-append pairs (pair ∷ []) in
    let front : take m (pairs ++ (pair ∷ [])) ≡ take m pairs = take-append-le m pairs (pair ∷ []) (omega (arith, one_more, less)) in
    open_before job.path.kind pairs m truth unsettled (subst (λ (ps : List Pair). Settles job.path.kind ps truth) front early)

-- the pairs that a monitor has seen settle nothing
pub still_open : (kind : PathKind) (monitor : Monitor) (pairs : List Pair) → monitor.kind ≡ kind → HasSeen monitor pairs → IsOpen kind pairs
still_open kind monitor pairs same seen = subst (λ (k : PathKind). IsOpen k pairs) same seen.unsettled

-- where this pair settles the formula, that is the trace's value
pub has_value : (job : Job) (trace step : ℕ) (monitor : Monitor) (state : State) (draws : Place) (pair : Pair) (truth : Bool)
    → IsUnderway job trace step monitor state draws → Ok pair ≡ pair_of job state
    → ((pairs : List Pair) → HasSeen monitor pairs → Settles monitor.kind (pairs ++ (pair ∷ [])) truth)
    → HasValue job trace truth
has_value job trace step monitor state draws pair truth underway is settled =
    let pairs = underway.pairs in
    let here = pair_here job trace step state draws.place (Ok pair) underway.at is in
    record {
      pairs = pairs ++ (pair ∷ []);
      first = first_with_here job trace step pairs pair underway.many underway.first here;
      settled = subst (λ (k : PathKind). Settles k (pairs ++ (pair ∷ [])) truth) underway.kind (settled pairs underway.seen);
      shortest = none_shorter job pairs pair (still_open job.path.kind monitor pairs underway.kind underway.seen);
    }

-- where the pair of the state faults, so does the trace
pub faults_here : (job : Job) (trace step : ℕ) (monitor : Monitor) (state : State) (draws : Place) (fault : TraceFault)
    → IsUnderway job trace step monitor state draws → Err fault ≡ pair_of job state → HasFault job trace step fault
faults_here job trace step monitor state draws fault underway is = record {
  pairs = underway.pairs;
  first = underway.first;
  before = underway.many;
  stopped = pair_here job trace step state draws.place (Err fault) underway.at is;
  unsettled = λ m t less. open_before job.path.kind underway.pairs m t (still_open job.path.kind monitor underway.pairs underway.kind underway.seen);
}

-- where a step leads, from where a trace stands
pub next_at : (job : Job) (trace step : ℕ) (from : Configuration) (next : Result Configuration TraceFault)
    → configuration_at job trace step ≡ Ok from → next ≡ next_of job.chain (draw_at job.seed trace) from
    → configuration_at job trace (step + 1) ≡ next
unfolding configuration_at
next_at job trace step from next at is =
    ap (configuration_at job trace) (add-one step)
    ∙ (ap (λ (c : Result Configuration TraceFault). c >>= λ f. step_of job.chain (draw_at job.seed trace) f >>= λ s. Ok s.0) at ∙ sym is)

-- what is said of a step's position is said of where it leads
position_of : (step : Result (Configuration × Taken) TraceFault) (next : Configuration) (most : ℕ) → Ok next ≡ (step >>= λ s. Ok s.0)
    → IfOk step (λ s. s.0.position ≤ most) → next.position ≤ most
position_of (Ok s) next most is few = subst (λ (c : Result Configuration TraceFault). IfOk c (λ f. f.position ≤ most)) (sym is) few
position_of (Err fault) next most is few = absurd (cc)

-- a step leads on: the next state is one of the chain, and it took few draws to come there
pub underway_next : (job : Job) (trace step : ℕ) (monitor : Monitor) (state next : State) (draws after : Place) (pair : Pair)
    → IsVisited job trace step monitor state draws pair → draws.trace ≡ trace
    → Ok (record { state = next; position = after.place }) ≡ next_of job.chain (draw_at draws.seed draws.trace) (record { state = state; position = draws.place })
    → after ≡ record draws { place = after.place }
    → IfOk (step_of job.chain (draw_at draws.seed draws.trace) (record { state = state; position = draws.place })) (λ s. s.0.position ≤ draws.place + 65)
    → ((k : ℕ) → IfOk (configuration_at job trace k) (λ from. IsState job.chain from.state))
    → IsUnderway job trace (step + 1) monitor next after
underway_next job trace step monitor state next draws after pair visited same leads stream few keeps =
    let from : Configuration = record { state = state; position = draws.place } in
    let at_seed : draw_at draws.seed draws.trace ≡ draw_at job.seed trace = ap (λ (p : Place). draw_at p.seed p.trace) visited.stream in
    let at : configuration_at job trace (step + 1) ≡ Ok (record { state = next; position = after.place }) =
    next_at job trace step from (Ok (record { state = next; position = after.place })) visited.at
    (leads ∙ ap (λ (draw : ℕ → ℕ). next_of job.chain draw from) at_seed) in
    let near : after.place ≤ draws.place + 65 =
    position_of (step_of job.chain (draw_at draws.seed draws.trace) from) (record { state = next; position = after.place }) (draws.place + 65) leads few in
    let before = visited.few in
    let many = visited.many in
    let one_more : length (visited.pairs ++ (pair ∷ [])) ≡ length visited.pairs + 1 = length-append visited.pairs (pair ∷ []) in
    record {
      pairs = visited.pairs ++ (pair ∷ []);
      many = one_more ∙ ap (λ (n : ℕ). n + 1) many;
      at = at;
      stream = stream ∙ ap (λ (p : Place). record p { place = after.place }) visited.stream;
      few = omega (arith, near, before);
      fits = subst (λ (c : Result Configuration TraceFault). IfOk c (λ f. IsState job.chain f.state)) at (keeps (step + 1));
      first = first_with_here job trace step visited.pairs pair many visited.first
          (pair_here job trace step state draws.place (Ok pair) visited.at (sym visited.here));
      kind = visited.kind;
      seen = visited.seen;
    }

-- where no step can be made, the trace faults
pub faults_next : (job : Job) (trace step : ℕ) (monitor : Monitor) (state : State) (draws : Place) (pair : Pair) (fault : TraceFault)
    → IsVisited job trace step monitor state draws pair
    → Err fault ≡ next_of job.chain (draw_at draws.seed draws.trace) (record { state = state; position = draws.place })
    → HasFault job trace (step + 1) fault
unfolding pair_at
faults_next job trace step monitor state draws pair fault visited leads =
    let from : Configuration = record { state = state; position = draws.place } in
    let at_seed : draw_at draws.seed draws.trace ≡ draw_at job.seed trace = ap (λ (p : Place). draw_at p.seed p.trace) visited.stream in
    let at : configuration_at job trace (step + 1) ≡ Err fault =
    next_at job trace step from (Err fault) visited.at (leads ∙ ap (λ (draw : ℕ → ℕ). next_of job.chain draw from) at_seed) in
    let many = visited.many in
    let one_more : length (visited.pairs ++ (pair ∷ [])) ≡ length visited.pairs + 1 = length-append visited.pairs (pair ∷ []) in
    record {
      pairs = visited.pairs ++ (pair ∷ []);
      first = first_with_here job trace step visited.pairs pair many visited.first
          (pair_here job trace step state draws.place (Ok pair) visited.at (sym visited.here));
      before = one_more ∙ ap (λ (n : ℕ). n + 1) many;
      stopped = ap (λ (c : Result Configuration TraceFault). c >>= λ f. pair_of job f.state) at;
      unsettled = λ m t less. open_before job.path.kind (visited.pairs ++ (pair ∷ [])) m t
          (still_open job.path.kind monitor (visited.pairs ++ (pair ∷ [])) visited.kind visited.seen);
    }
