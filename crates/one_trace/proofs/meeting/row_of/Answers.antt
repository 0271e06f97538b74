-- What is told of a state is kept.
use Rattle.std.proofs.Common.{◌≡◌, ◌++◌, length, take, drop, refl, sym, ap, ◌∙◌, subst, arith}
use Rattle.std.specs.Prelude.{Ok}
use Rattle.chain_model.specs.States.{State, IsState}
use Rattle.chain_model.specs.Trace.{pair_of}
use Rattle.successors.specs.Nexts.{LeadsTo, LeadsByDraw}
use Rattle.one_trace.proofs.NumberLemmas.{goes_on_same}
use Rattle.one_trace.proofs.WorkLemmas.{written_over, length-written, made_again}
use Rattle.one_trace.proofs.meeting.row_of.Goals as goal

pub returns-in-Untold-clause-work : goal.returns-in-Untold-clause-work
returns-in-Untold-clause-work c =
    made_again c.args.job.now c.args.work.now _ refl refl c.in-Untold.ensures.stepper c.requires.work.known
    (goes_on_same c.args.work.now.known.table.states) refl refl refl
    (length-written c.args.work.now.first.len c.next_states.new.first c.args.work.now.first.items (omega arith) (c.next_states.auto.first ∙ ap length c.deref_mut.ensures.value))
    (length-written c.args.work.now.second.len c.next_states.new.second c.args.work.now.second.items (omega arith) (c.next_states.auto.second ∙ ap length c.deref_mut-2.ensures.value))
    c.requires.work

pub returns-in-Stays-clause-work : goal.returns-in-Stays-clause-work
returns-in-Stays-clause-work c =
    made_again c.args.job.now c.args.work.now _ refl refl c.in-Stays.ensures.stepper c.requires.work.known
    (goes_on_same c.args.work.now.known.table.states) refl refl refl
    (length-written c.args.work.now.first.len c.next_states.new.first c.args.work.now.first.items (omega arith) (c.next_states.auto.first ∙ ap length c.deref_mut.ensures.value))
    (length-written c.args.work.now.second.len c.next_states.new.second c.args.work.now.second.items (omega arith) (c.next_states.auto.second ∙ ap length c.deref_mut-2.ensures.value))
    c.requires.work

pub returns-in-One-clause-row : goal.returns-in-One-clause-row
returns-in-One-clause-row c =
    let state : State = c.args.work.now.state.items in
    let next : State = c.next_states.new.first in
    let whole : take c.args.work.now.first.len (next ++ drop (length next) c.args.work.now.first.items) ≡ next =
    written_over c.args.work.now.first.len next c.args.work.now.first.items (omega arith) (c.next_states.auto.first ∙ ap length c.deref_mut.ensures.value) in
    let pair : pair_of c.args.job.now state ≡ Ok c.in-Ok.pair =
    ap (pair_of c.args.job.now) (sym c.deref.ensures.value)
    ∙ sym (c.in-Ok.ensures c.args.job.now c.requires.work.code (subst (IsState c.args.job.now.chain) (sym c.deref.ensures.value) c.requires.state)) in
    c.row_of_one.ensures.row c.args.job.now state pair
    (subst (λ (s : State). LeadsTo c.args.job.now.chain state s) (sym (c.deref-in-One.ensures.value ∙ whole))
    (subst (λ (s : State). LeadsTo c.args.job.now.chain s next) c.deref-2.ensures.value c.in-One.ensures.next))

pub returns-in-One-clause-work : goal.returns-in-One-clause-work
returns-in-One-clause-work c =
    let next : State = c.next_states.new.first in
    let whole : take c.args.work.now.first.len (next ++ drop (length next) c.args.work.now.first.items) ≡ next =
    written_over c.args.work.now.first.len next c.args.work.now.first.items (omega arith) (c.next_states.auto.first ∙ ap length c.deref_mut.ensures.value) in
    made_again c.args.job.now c.args.work.now _ refl refl c.in-One.ensures.stepper
    (c.row_of_one.ensures.known c.args.job.now c.requires.work.known
    (subst (IsState c.args.job.now.chain) (sym (c.deref-in-One.ensures.value ∙ whole)) c.in-One.ensures.next.fits))
    c.row_of_one.ensures.states refl refl refl
    (length-written c.args.work.now.first.len c.next_states.new.first c.args.work.now.first.items (omega arith) (c.next_states.auto.first ∙ ap length c.deref_mut.ensures.value))
    (length-written c.args.work.now.second.len c.next_states.new.second c.args.work.now.second.items (omega arith) (c.next_states.auto.second ∙ ap length c.deref_mut-2.ensures.value))
    c.requires.work

pub returns-in-Drawn-clause-row : goal.returns-in-Drawn-clause-row
returns-in-Drawn-clause-row c =
    let state : State = c.args.work.now.state.items in
    let first : State = c.next_states.new.first in
    let second : State = c.next_states.new.second in
    let whole : take c.args.work.now.first.len (first ++ drop (length first) c.args.work.now.first.items) ≡ first =
    written_over c.args.work.now.first.len first c.args.work.now.first.items (omega arith) (c.next_states.auto.first ∙ ap length c.deref_mut.ensures.value) in
    let other : take c.args.work.now.second.len (second ++ drop (length second) c.args.work.now.second.items) ≡ second =
    written_over c.args.work.now.second.len second c.args.work.now.second.items (omega arith) (c.next_states.auto.second ∙ ap length c.deref_mut-2.ensures.value) in
    let pair : pair_of c.args.job.now state ≡ Ok c.in-Ok.pair =
    ap (pair_of c.args.job.now) (sym c.deref.ensures.value)
    ∙ sym (c.in-Ok.ensures c.args.job.now c.requires.work.code (subst (IsState c.args.job.now.chain) (sym c.deref.ensures.value) c.requires.state)) in
    c.row_of_two.ensures.row c.args.job.now state pair
    (subst (λ (s : State). LeadsByDraw c.args.job.now.chain state c.in-Drawn.threshold s c.deref-in-Drawn-2.result.now) (sym (c.deref-in-Drawn.ensures.value ∙ whole))
    (subst (λ (s : State). LeadsByDraw c.args.job.now.chain state c.in-Drawn.threshold first s) (sym (c.deref-in-Drawn-2.ensures.value ∙ other))
    (subst (λ (s : State). LeadsByDraw c.args.job.now.chain s c.in-Drawn.threshold first second) c.deref-2.ensures.value c.in-Drawn.ensures.next)))

pub returns-in-Drawn-clause-work : goal.returns-in-Drawn-clause-work
returns-in-Drawn-clause-work c =
    let first : State = c.next_states.new.first in
    let second : State = c.next_states.new.second in
    let whole : take c.args.work.now.first.len (first ++ drop (length first) c.args.work.now.first.items) ≡ first =
    written_over c.args.work.now.first.len first c.args.work.now.first.items (omega arith) (c.next_states.auto.first ∙ ap length c.deref_mut.ensures.value) in
    let other : take c.args.work.now.second.len (second ++ drop (length second) c.args.work.now.second.items) ≡ second =
    written_over c.args.work.now.second.len second c.args.work.now.second.items (omega arith) (c.next_states.auto.second ∙ ap length c.deref_mut-2.ensures.value) in
    made_again c.args.job.now c.args.work.now _ refl refl c.in-Drawn.ensures.stepper
    (c.row_of_two.ensures.known c.args.job.now c.requires.work.known
    (subst (IsState c.args.job.now.chain) (sym (c.deref-in-Drawn.ensures.value ∙ whole)) c.in-Drawn.ensures.next.first_fits)
    (subst (IsState c.args.job.now.chain) (sym (c.deref-in-Drawn-2.ensures.value ∙ other)) c.in-Drawn.ensures.next.second_fits))
    c.row_of_two.ensures.states refl refl refl
    (ap length whole ∙ (c.next_states.auto.first ∙ ap length c.deref_mut.ensures.value))
    (ap length other ∙ (c.next_states.auto.second ∙ ap length c.deref_mut-2.ensures.value))
    c.requires.work
