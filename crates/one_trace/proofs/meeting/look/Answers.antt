-- The pair of the state that a trace has come to.
use Rattle.std.proofs.Common.{◌≡◌, ◌++◌, length, take, drop, refl, sym, ap, ◌∙◌, subst, arith}
use Rattle.std.specs.Prelude.{Option, Some, IfSome, ℕ, slice_get}
use Rattle.std.proofs.lemmas.Option.{slice_get_within}
use Rattle.chain_model.specs.States.{State, IsState}
use Rattle.chain_model.specs.Trace.{pair_of}
use Rattle.one_trace.specs.Numbers.{IsAt}
use Rattle.one_trace.proofs.NumberLemmas.{goes_on_same, keeps_number}
use Rattle.one_trace.proofs.WorkLemmas.{written_over, made_again}
use Rattle.one_trace.proofs.meeting.look.Goals as goal

pub write_state-requires-clause-some : goal.write_state-requires-clause-some
write_state-requires-clause-some c =
    slice_get_within c.args.work.now.known.table.states c.in-Some.number c.requires.here.0
    (subst (λ (o : Option ℕ). IsAt c.args.work.now.known.table.states o c.args.work.now.state.items c.requires.here.0) c.in-Some.is c.requires.here.1)

pub write_state-requires-clause-long : goal.write_state-requires-clause-long
write_state-requires-clause-long c =
    let at : slice_get c.args.work.now.known.table.states c.in-Some.number ≡ Some c.requires.here.0 =
    subst (λ (o : Option ℕ). IsAt c.args.work.now.known.table.states o c.args.work.now.state.items c.requires.here.0) c.in-Some.is c.requires.here.1 in
    subst (λ (o : Option State). IfSome o (λ known. length known ≡ length c.deref_mut.result.now)) (sym at)
    (c.requires.here.2.long ∙ sym (ap length c.deref_mut.ensures.value ∙ c.requires.work.room ∙ c.requires.work.starts.long))

pub meet-requires-clause-work : goal.meet-requires-clause-work
meet-requires-clause-work c =
    let next : State = c.write_state.new.state in
    let long : length next ≡ length c.args.work.now.state.items = c.write_state.auto.state ∙ ap length c.deref_mut.ensures.value in
    made_again c.args.job.now c.args.work.now _ refl refl c.requires.work.stepper c.requires.work.known
    (goes_on_same c.args.work.now.known.table.states) refl refl
    (ap length (written_over c.args.work.now.state.len next c.args.work.now.state.items (omega arith) long) ∙ long) refl refl c.requires.work

pub meet-requires-clause-state : goal.meet-requires-clause-state
meet-requires-clause-state c =
    let next : State = c.write_state.new.state in
    let long : length next ≡ length c.args.work.now.state.items = c.write_state.auto.state ∙ ap length c.deref_mut.ensures.value in
    c.write_state.ensures ∙ ap Some (sym (written_over c.args.work.now.state.len next c.args.work.now.state.items (omega arith) long))

pub returns-in_default-clause-pair : goal.returns-in_default-clause-pair
returns-in_default-clause-pair c =
    let here : c.args.work.now.state.items ≡ c.requires.here.0 =
    subst (λ (o : Option ℕ). IsAt c.args.work.now.known.table.states o c.args.work.now.state.items c.requires.here.0) c.in_default.is c.requires.here.1 in
    c.pair.ensures c.args.job.now c.requires.work.code (subst (IsState c.args.job.now.chain) (sym (c.deref.ensures.value ∙ here)) c.requires.here.2)
    ∙ ap (pair_of c.args.job.now) c.deref.ensures.value

pub returns-in-Some-pair-clause-pair : goal.returns-in-Some-pair-clause-pair
returns-in-Some-pair-clause-pair c =
    sym (c.in-Some-pair.ensures c.args.job.now c.meet.new.work.known.table.states _ c.meet.ensures.row)
    ∙ ap (pair_of c.args.job.now) (sym c.meet.ensures.written)

pub returns-in-None-clause-pair : goal.returns-in-None-clause-pair
returns-in-None-clause-pair c =
    let next : State = c.write_state.new.state in
    let long : length next ≡ length c.args.work.now.state.items = c.write_state.auto.state ∙ ap length c.deref_mut.ensures.value in
    let whole : take c.args.work.now.state.len (next ++ drop (length next) c.args.work.now.state.items) ≡ next =
    written_over c.args.work.now.state.len next c.args.work.now.state.items (omega arith) long in
    c.pair-in-None.ensures c.args.job.now c.meet.ensures.work.code
    (subst (IsState c.args.job.now.chain) (sym (c.deref-in-None.ensures.value ∙ c.meet.ensures.written ∙ whole))
    (c.requires.work.known.states c.in-Some.number next c.write_state.ensures))
    ∙ ap (pair_of c.args.job.now) c.deref-in-None.ensures.value

pub returns-in-Some-pair-clause-numbered : goal.returns-in-Some-pair-clause-numbered
returns-in-Some-pair-clause-numbered c =
    let next : State = c.write_state.new.state in
    let long : length next ≡ length c.args.work.now.state.items = c.write_state.auto.state ∙ ap length c.deref_mut.ensures.value in
    let whole : take c.args.work.now.state.len (next ++ drop (length next) c.args.work.now.state.items) ≡ next =
    written_over c.args.work.now.state.len next c.args.work.now.state.items (omega arith) long in
    subst (λ (o : Option ℕ). IfSome o (λ n. slice_get c.meet.new.work.known.table.states n ≡ Some c.meet.new.work.state.items)) (sym c.in-Some.is)
    (keeps_number c.args.work.now.known.table.states c.meet.new.work.known.table.states c.in-Some.number next
    c.meet.ensures.states c.write_state.ensures ∙ ap Some (sym (c.meet.ensures.written ∙ whole)))

pub returns-in-None-clause-numbered : goal.returns-in-None-clause-numbered
returns-in-None-clause-numbered c =
    let next : State = c.write_state.new.state in
    let long : length next ≡ length c.args.work.now.state.items = c.write_state.auto.state ∙ ap length c.deref_mut.ensures.value in
    let whole : take c.args.work.now.state.len (next ++ drop (length next) c.args.work.now.state.items) ≡ next =
    written_over c.args.work.now.state.len next c.args.work.now.state.items (omega arith) long in
    subst (λ (o : Option ℕ). IfSome o (λ n. slice_get c.meet.new.work.known.table.states n ≡ Some c.meet.new.work.state.items)) (sym c.in-Some.is)
    (keeps_number c.args.work.now.known.table.states c.meet.new.work.known.table.states c.in-Some.number next
    c.meet.ensures.states c.write_state.ensures ∙ ap Some (sym (c.meet.ensures.written ∙ whole)))
