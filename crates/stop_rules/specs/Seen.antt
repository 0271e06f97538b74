-- What a run sees of the outcomes of its traces.
use Rattle.std.specs.Prelude.{◌≡◌, ℕ, ◌+◌, Bool, true, false, not, List, Option, Some, None, option_map, slice_get}
use Rattle.chain_model.specs.declared.outcome.Outcome.{Outcome}
use Rattle.chain_model.specs.declared.outcome.Outcome.TheVariants.{True, False, Fault}

-- the raw truth value of an outcome, which a fault has not
abbrev pub truth_of : Outcome → Option Bool
truth_of True = Some true
truth_of False = Some false
truth_of (Fault step fault) = None

-- whether a trace of this raw truth value succeeds: where it is true, or where it is false if the goal says so
abbrev pub is_success : Bool → Bool → Bool
is_success true raw = not raw
is_success false raw = raw

-- what is seen of an outcome: whether the trace succeeds, or nothing where it faults
abbrev pub seen_of : Bool → Outcome → Option Bool
seen_of flip outcome = option_map (is_success flip) (truth_of outcome)

-- this is seen of a trace, where `outcome_at trace outcome` says which outcome a trace has
abbrev pub SeenAt : (ℕ → Outcome → Type 0) → Bool → ℕ → Option Bool → Type 0
SeenAt outcome_at flip trace one = (outcome : Outcome) × outcome_at trace outcome × (seen_of flip outcome ≡ one)

-- these are seen of the traces from this number on
abbrev pub AreSeen : (ℕ → Outcome → Type 0) → Bool → ℕ → List (Option Bool) → Type 0
AreSeen outcome_at flip first seen =
    (k : ℕ) (one : Option Bool) → slice_get seen k ≡ Some one → SeenAt outcome_at flip (first + k) one
