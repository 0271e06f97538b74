-- Where a trace goes on from a state that it has come to.
use Rattle.std.proofs.Common.{◌≡◌, ℕ, ◌+◌, ◌<◌, ◌≤◌, ◌^◌, Bool, true, false, List, refl, sym, ◌∙◌, ap}
use Rattle.std.specs.Prelude.{Some, Ok, IfOk, nat_lt, if◌then◌else◌, slice_get}
use Rattle.trace_streams.specs.Draws.{draw_at, Place}
use Rattle.chain_model.specs.declared.chain.Chain.{Chain}
use Rattle.chain_model.specs.declared.job.Job.{Job}
use Rattle.chain_model.specs.States.{State, IsState}
use Rattle.chain_model.specs.Step.{Configuration, step_of}
use Rattle.chain_model.specs.Trace.{Pair, configuration_at}
use Rattle.path_monitor.specs.declared.monitor.Monitor.{Monitor}
use Rattle.one_trace.specs.Rows.{LeadsToNumber, LeadsToNumbers}
use Rattle.one_trace.specs.Underway.{IsVisited}
use Rattle.one_trace.specs.Visits.{IsUnderwayAt}
use Rattle.one_trace.proofs.UnderwayLemmas.{underway_next}

-- the law that steps draw few numbers, and that traces stay within ranges
abbrev pub DrawsFew : Type 0
DrawsFew = (chain : Chain) (draw : ℕ → ℕ) (from : Configuration) → IfOk (step_of chain draw from) (λ step. step.0.position ≤ from.position + 65)

abbrev pub KeepsRanges : Type 0
KeepsRanges = (job : Job) (trace k : ℕ) → IfOk (configuration_at job trace k) (λ from. IsState job.chain from.state)

-- the number that is chosen is that of the state that is chosen
chosen : (states : List State) (low high : ℕ) (first second : State) (below : Bool) → slice_get states low ≡ Some first
    → slice_get states high ≡ Some second
    → slice_get states (if below then low else high) ≡ Some (if below then first else second)
chosen states low high first second true at_low at_high = at_low
chosen states low high first second false at_low at_high = at_high

-- a step by one draw
pub underway_drawn : (job : Job) (trace step : ℕ) (monitor : Monitor) (states : List State) (written state : State) (draws after : Place)
    (pair : Pair) (threshold low high number : ℕ)
    → IsVisited job trace step monitor state draws pair → draws.trace ≡ trace
    → LeadsToNumbers job.chain states state threshold low high
    → number ≡ (if nat_lt (draw_at draws.seed draws.trace draws.place) threshold then low else high)
    → after ≡ record draws { place = draws.place + 1 }
    → ((seed trace place : ℕ) → draw_at seed trace place < 2 ^ 64) → DrawsFew → KeepsRanges
    → IsUnderwayAt job trace (step + 1) monitor states (Some number) written after
underway_drawn job trace step monitor states written state draws after pair threshold low high number visited same leads told moved words few keeps =
    let below : Bool = nat_lt (draw_at draws.seed draws.trace draws.place) threshold in
    let next : State = if below then leads.first else leads.second in
    let place : after.place ≡ draws.place + 1 = ap (λ (p : Place). p.place) moved in
    record {
      state = next;
      here = ap (slice_get states) told ∙ chosen states low high leads.first leads.second below leads.numbered_low leads.numbered_high;
      underway = underway_next job trace step monitor state next draws after pair visited same
          (ap (λ (p : ℕ). Ok (record { state = next; position = p })) place
          ∙ sym (leads.leads.step (draw_at draws.seed draws.trace) draws.place (words draws.seed draws.trace draws.place)))
          (moved ∙ ap (λ (p : ℕ). record draws { place = p }) (sym place))
          (few job.chain _ _) (keeps job trace);
    }

-- a step that draws nothing
pub underway_one : (job : Job) (trace step : ℕ) (monitor : Monitor) (states : List State) (written state : State) (draws : Place)
    (pair : Pair) (number : ℕ)
    → IsVisited job trace step monitor state draws pair → draws.trace ≡ trace
    → LeadsToNumber job.chain states state number → DrawsFew → KeepsRanges
    → IsUnderwayAt job trace (step + 1) monitor states (Some number) written draws
underway_one job trace step monitor states written state draws pair number visited same leads few keeps = record {
  state = leads.next;
  here = leads.numbered;
  underway = underway_next job trace step monitor state leads.next draws draws pair visited same
      (sym (leads.leads.step (draw_at draws.seed draws.trace) draws.place)) refl (few job.chain _ _) (keeps job trace);
}
