-- Rows of states, where the states go on.
use Rattle.std.proofs.Common.{◌≡◌, inl, inr, ℕ, ◌<◌, List, [], ◌∷◌, ◌++◌, length, set, refl, sym, ◌∙◌, ap, subst, arith}
use Rattle.std.specs.Prelude.{Some, slice_get}
use Rattle.std.proofs.lemmas.Option.{same_Some, slice_get_within}
use Rattle.chain_model.specs.declared.chain.Chain.{Chain}
use Rattle.chain_model.specs.declared.job.Job.{Job}
use Rattle.chain_model.specs.States.{State}
use Rattle.one_trace.specs.declared.rows.Row.{Row}
use Rattle.one_trace.specs.declared.rows.Row.TheVariants as r
use Rattle.one_trace.specs.Numbers.{GoesOnFrom}
use Rattle.one_trace.specs.Rows.{IsRow, LeadsToNumber, LeadsToNumbers}
use Rattle.one_trace.proofs.NumberLemmas.{keeps_number, in_longer, in_written}

-- the numbers of next states stay where states go on
one_further : (chain : Chain) (old new : List State) (state : State) (number : ℕ) → GoesOnFrom old new
    → LeadsToNumber chain old state number → LeadsToNumber chain new state number
one_further chain old new state number goes leads = record {
  next = leads.next;
  numbered = keeps_number old new number leads.next goes leads.numbered;
  leads = leads.leads;
}

two_further : (chain : Chain) (old new : List State) (state : State) (threshold low high : ℕ) → GoesOnFrom old new
    → LeadsToNumbers chain old state threshold low high → LeadsToNumbers chain new state threshold low high
two_further chain old new state threshold low high goes leads = record {
  first = leads.first;
  second = leads.second;
  numbered_low = keeps_number old new low leads.first goes leads.numbered_low;
  numbered_high = keeps_number old new high leads.second goes leads.numbered_high;
  leads = leads.leads;
}

-- and so does what a row says
pub row_further : (job : Job) (old new : List State) (state : State) (row : Row) → GoesOnFrom old new → IsRow job old state row
    → IsRow job new state row
row_further job old new state r.New goes is = is
row_further job old new state r.Once goes is = is
row_further job old new state (r.Open first second) goes is = is
row_further job old new state (r.Stays first second) goes is = is
row_further job old new state (r.One first second number) goes is = (is.0, one_further job.chain old new state number goes is.1)
row_further job old new state (r.Drawn first second threshold low high) goes is =
    (is.0, two_further job.chain old new state threshold low high goes is.1)

-- rows say what is so of states, one for one
abbrev pub AreRows : Job → List State → List State → List Row → Type 0
AreRows job all states rows = (number : ℕ) (state : State) (row : Row) → slice_get states number ≡ Some state
    → slice_get rows number ≡ Some row → IsRow job all state row

-- a new state, and a row that says nothing of it
pub rows_longer : (job : Job) (states : List State) (state : State) (rows : List Row) → length rows ≡ length states
    → AreRows job states states rows → AreRows job (states ++ (state ∷ [])) (states ++ (state ∷ [])) (rows ++ (r.New ∷ []))
rows_longer job states state rows many are = λ number s row there here.
    elim (in_longer rows r.New number row here) as (λ _. IsRow job (states ++ (state ∷ [])) s row) [
      | inl early ↦ elim (in_longer states state number s there) as (λ _. IsRow job (states ++ (state ∷ [])) s row) [
        | inl before ↦ row_further job states (states ++ (state ∷ [])) s row (state ∷ [], refl) (are number s row before early)
        | inr last ↦ let within : number < length rows = slice_get_within rows number row early in absurd (omega (arith, within, many, last.0))
      ]
      | inr last ↦ subst (IsRow job (states ++ (state ∷ [])) s) last.1 tt
    ]

-- a row that is written over another
pub rows_written : (job : Job) (states : List State) (rows : List Row) (i : ℕ) (known : State) (row : Row)
    → slice_get states i ≡ Some known → IsRow job states known row → AreRows job states states rows
    → AreRows job states states (set rows i row)
rows_written job states rows i known row at is are = λ number s other there here.
    elim (in_written rows i row number other here) as (λ _. IsRow job states s other) [
      | inl written ↦
          subst (IsRow job states s) written.1
          (subst (λ (t : State). IsRow job states t row)
          (same_Some known s (sym at ∙ ap (slice_get states) (sym written.0) ∙ there)) is)
      | inr before ↦ are number s other there before
    ]
