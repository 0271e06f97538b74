-- The initial state has its number, or is written out.
use Rattle.std.proofs.Common.{◌≡◌, ℕ, length, refl, sym, ap, ◌∙◌, subst}
use Rattle.std.specs.Prelude.{Option, Some, IfSome, slice_get}
use Rattle.one_trace.proofs.NumberLemmas.{goes_on_same}
use Rattle.one_trace.proofs.WorkLemmas.{made_again}
use Rattle.one_trace.proofs.trace.start.Goals as goal

pub returns-in-Some-clause-state : goal.returns-in-Some-clause-state
returns-in-Some-clause-state c = λ job made.
    subst (λ (o : Option ℕ). IfSome o (λ n. slice_get c.args.work.now.known.table.states n ≡ Some c.args.work.now.initial.items)) c.in-Some.is made.start
    ∙ ap Some made.initial

pub returns-in-None-clause-state : goal.returns-in-None-clause-state
returns-in-None-clause-state c = λ job made. c.copy_from_slice.ensures.items ∙ c.as_slice.ensures.value ∙ made.initial

pub returns-in-None-clause-work : goal.returns-in-None-clause-work
returns-in-None-clause-work c = λ job made.
    made_again job c.args.work.now _ refl refl made.stepper made.known (goes_on_same c.args.work.now.known.table.states) refl refl
    (ap length (c.copy_from_slice.ensures.items ∙ c.as_slice.ensures.value) ∙ sym made.room) refl refl made
