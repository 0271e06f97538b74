-- The choices of a state are kept where states and commands go on.
use Rattle.std.proofs.Common.{◌≡◌, inl, inr, ℕ, ◌+◌, ◌-◌, ◌*◌, ◌<◌, ◌≤◌, List, ◌++◌, length, set, take, drop, refl, sym, ◌∙◌, ap, subst, arith, length-append}
use Rattle.std.specs.Prelude.{Some, slice_get}
use Rattle.std.proofs.lemmas.List.{length-drop, take_all, take-append-le, drop_at, drop-append-le}
use Rattle.chain_model.specs.declared.job.Job.{Job}
use Rattle.chain_model.specs.States.{State}
use Rattle.successors.specs.Choosing.{AreKnownChoices}
use Rattle.one_trace.specs.declared.kept.Span.{Span}
use Rattle.one_trace.specs.declared.kept.KeptChoices.{KeptChoices}
use Rattle.one_trace.specs.Numbers.{GoesOnFrom}
use Rattle.one_trace.specs.Kept.{IsKept, AreKept}
use Rattle.one_trace.proofs.NumberLemmas.{keeps_number, in_written}

-- commands that follow change nothing of those before
span_longer : (commands more : List ℕ) (from size : ℕ) → from + size ≤ length commands
    → take size (drop from (commands ++ more)) ≡ take size (drop from commands)
span_longer commands more from size within =
    let long : length (drop from commands) ≡ length commands - from = length-drop from commands in
    ap (take size) (drop-append-le from commands more (omega (arith, within)))
    ∙ take-append-le size (drop from commands) more (omega (arith, within, long))

-- and they stand at the end
span_last : (commands chosen : List ℕ) → take (length chosen) (drop (length commands) (commands ++ chosen)) ≡ chosen
span_last commands chosen =
    ap (take (length chosen)) (drop_at commands chosen (length commands) refl) ∙ take_all (length chosen) chosen (omega arith)

-- states have come
pub kept_further : (job : Job) (old new : List State) (kept : KeptChoices) → GoesOnFrom old new → AreKept job old kept
    → AreKept job new kept
kept_further job old new kept goes are = λ number span at some.
    let is : IsKept job old kept.commands.items number span = are number span at some in
    record {
      state = is.state;
      numbered = keeps_number old new number is.state goes is.numbered;
      within = is.within;
      choices = is.choices;
    }

-- the span that was written points at the commands that were pushed
kept_here : (job : Job) (states : List State) (before now : List ℕ) (number : ℕ) (state : State) (chosen : List ℕ) (n : ℕ) (span : Span)
    → now ≡ before ++ chosen → span.from ≡ length before → slice_get states number ≡ Some state → n ≡ number
    → AreKnownChoices job.chain state span.count span.size chosen → IsKept job states now n span
kept_here job states before now number state chosen n span commands from numbered same choices =
    let long : length now ≡ length before + length chosen = ap length commands ∙ length-append before chosen in
    record {
      state = state;
      numbered = ap (slice_get states) same ∙ numbered;
      within = omega (arith, long, from, choices.long);
      choices = subst (AreKnownChoices job.chain state span.count span.size) (sym (ap (λ (k : ℕ). take k (drop span.from now)) (sym choices.long)
          ∙ ap (λ (k : ℕ). take (length chosen) (drop k now)) from
          ∙ ap (λ (cs : List ℕ). take (length chosen) (drop (length before) cs)) commands
          ∙ span_last before chosen)) choices;
    }

-- and the others at those at which they did
kept_there : (job : Job) (states : List State) (before now : List ℕ) (chosen : List ℕ) (n : ℕ) (span : Span)
    → now ≡ before ++ chosen → IsKept job states before n span → IsKept job states now n span
kept_there job states before now chosen n span commands is =
    let size : ℕ = span.count * span.size in
    let long : length now ≡ length before + length chosen = ap length commands ∙ length-append before chosen in
    let within : span.from + size ≤ length before = is.within in
    record {
      state = is.state;
      numbered = is.numbered;
      within = omega (arith, long, within);
      choices = subst (AreKnownChoices job.chain is.state span.count span.size)
          (sym (ap (λ (cs : List ℕ). take size (drop span.from cs)) commands ∙ span_longer before chosen span.from size within)) is.choices;
    }

-- choices are kept
pub choices_kept : (job : Job) (states : List State) (spans : List Span) (before now : List ℕ) (number : ℕ) (state : State)
    (chosen : List ℕ) (span : Span) → now ≡ before ++ chosen → span.from ≡ length before
    → slice_get states number ≡ Some state → AreKnownChoices job.chain state span.count span.size chosen
    → ((n : ℕ) (s : Span) → slice_get spans n ≡ Some s → 0 < s.count → IsKept job states before n s)
    → (n : ℕ) (s : Span) → slice_get (set spans number span) n ≡ Some s → 0 < s.count → IsKept job states now n s
choices_kept job states spans before now number state chosen span commands from numbered choices are = λ n s at some.
    elim (in_written spans number span n s at) as (λ _. IsKept job states now n s) [
      | inl here ↦ kept_here job states before now number state chosen n s commands (ap (λ (t : Span). t.from) (sym here.1) ∙ from) numbered here.0
          (subst (λ (t : Span). AreKnownChoices job.chain state t.count t.size chosen) here.1 choices)
      | inr other ↦ kept_there job states before now chosen n s commands (are n s other some)
    ]
