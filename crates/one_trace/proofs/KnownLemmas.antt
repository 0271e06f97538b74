-- What is known of states stays so where states go on and rows are kept.
use Rattle.std.proofs.Common.{◌≡◌, inl, inr, ℕ, ◌+◌, List, [], ◌∷◌, ◌++◌, length, set, sym, ◌∙◌, ap, subst, arith, length-append}
use Rattle.std.specs.Prelude.{Some, slice_get}
use Rattle.chain_model.specs.declared.job.Job.{Job}
use Rattle.chain_model.specs.States.{State, IsState}
use Rattle.state_table.specs.Table.{AddsAtMost}
use Rattle.one_trace.specs.declared.rows.Row.{Row}
use Rattle.one_trace.specs.declared.rows.Row.TheVariants as r
use Rattle.one_trace.specs.declared.known.Known.{Known}
use Rattle.one_trace.specs.Numbers.{GoesOnFrom}
use Rattle.one_trace.specs.Rows.{IsRow}
use Rattle.one_trace.specs.Known.{IsKnown}
use Rattle.std.proofs.lemmas.List.{append-nil}
use Rattle.std.proofs.lemmas.Option.{none-some}
use Rattle.one_trace.proofs.NumberLemmas.{in_longer}
use Rattle.one_trace.proofs.RowLemmas.{AreRows, rows_longer, rows_written}

-- states that have at most one more go on
pub adds_goes_on : (old new : List State) (state : State) → AddsAtMost old new state → GoesOnFrom old new
adds_goes_on old new state adds = elim adds [
  | inl same ↦ ([], same ∙ sym (append-nil old))
  | inr longer ↦ (state ∷ [], longer)
]

-- where as many rows as states are left, no state came
pub adds_none : (old new : List State) (state : State) (many : ℕ) → AddsAtMost old new state → many ≡ length old → many ≡ length new
    → new ≡ old
adds_none old new state many adds before after = elim adds [
  | inl same ↦ same
  | inr longer ↦
      let more : length new ≡ length old + 1 = ap length longer ∙ length-append old (state ∷ []) in
      absurd (omega (arith, more, before, after))
]

-- where fewer are left, one came
pub adds_one : (old new : List State) (state : State) → AddsAtMost old new state → ¬ (length old ≡ length new)
    → new ≡ old ++ (state ∷ [])
adds_one old new state adds differs = elim adds [
  | inl same ↦ absurd (differs (ap length (sym same)))
  | inr longer ↦ longer
]

-- nothing is changed
pub known_same : (job : Job) (before now : Known) → now.table.width ≡ before.table.width → now.table.states ≡ before.table.states
    → now.rows.items ≡ before.rows.items → IsKnown job before → IsKnown job now
known_same job before now width states rows known = record {
  width = width ∙ known.width;
  states = subst (λ (ss : List State). (number : ℕ) (state : State) → slice_get ss number ≡ Some state → IsState job.chain state) (sym states) known.states;
  rows = subst (λ (ss : List State). AreRows job ss ss now.rows.items) (sym states)
      (subst (AreRows job before.table.states before.table.states) (sym rows) known.rows);
}

-- there is a new state
pub known_longer : (job : Job) (before now : Known) (state : State) → now.table.width ≡ before.table.width
    → length before.rows.items ≡ length before.table.states → IsState job.chain state
    → now.table.states ≡ before.table.states ++ (state ∷ []) → now.rows.items ≡ before.rows.items ++ (r.New ∷ [])
    → IsKnown job before → IsKnown job now
known_longer job before now state width many fits states rows known = record {
  width = width ∙ known.width;
  states = λ number s there. elim (in_longer before.table.states state number s (ap (λ (ss : List State). slice_get ss number) (sym states) ∙ there)) [
    | inl early ↦ known.states number s early
    | inr last ↦ subst (IsState job.chain) last.1 fits
  ];
  rows = subst (λ (ss : List State). AreRows job ss ss now.rows.items) (sym states)
      (subst (AreRows job (before.table.states ++ (state ∷ [])) (before.table.states ++ (state ∷ []))) (sym rows)
      (rows_longer job before.table.states state before.rows.items many known.rows));
}

-- a row is kept of a state
pub known_written : (job : Job) (before now : Known) (number : ℕ) (state : State) (row : Row) → now.table ≡ before.table
    → now.rows.items ≡ set before.rows.items number row → slice_get before.table.states number ≡ Some state
    → IsRow job before.table.states state row → IsKnown job before → IsKnown job now
known_written job before now number state row same rows at is known = record {
  width = ap (λ t. t.width) same ∙ known.width;
  states = subst (λ (ss : List State). (n : ℕ) (s : State) → slice_get ss n ≡ Some s → IsState job.chain s) (sym (ap (λ t. t.states) same)) known.states;
  rows = subst (λ (ss : List State). AreRows job ss ss now.rows.items) (sym (ap (λ t. t.states) same))
      (subst (AreRows job before.table.states before.table.states) (sym rows)
      (rows_written job before.table.states before.rows.items number state row at is known.rows));
}

-- of no states everything that is known is so
pub known_none : (job : Job) (known : Known) → known.table.states ≡ [] → known.table.width ≡ length job.chain.vars → IsKnown job known
known_none job known none width = record {
  width = width;
  states = λ number state there. absurd (none-some state (ap (λ (ss : List State). slice_get ss number) (sym none) ∙ there));
  rows = λ number state row there here. absurd (none-some state (ap (λ (ss : List State). slice_get ss number) (sym none) ∙ there));
}
