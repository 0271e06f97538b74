-- A step follows from its choice, its branches and what they assign.
use Rattle.std.proofs.Common.{◌+◌, ℕ, List, Err, map, ap, sym, ◌∙◌, subst}
use Rattle.std.specs.Prelude.{sum}
use Rattle.trace_streams.specs.Draws.{Place, draw_at}
use Rattle.chain_model.specs.States.{State}
use Rattle.chain_model.specs.Step.{all_sets, branches_of, command_draws}
use Rattle.trace_meaning.specs.Assigning.{assigned_to}
use Rattle.trace_meaning.specs.Gives.{Gives}
use Rattle.trace_meaning.proofs.StepLemmas.{choice_err, branches_err, assigned_err, stepped}
use Rattle.trace_meaning.proofs.step.step.Goals as goal

pub returns-in-Err-clause-value : goal.returns-in-Err-clause-value
returns-in-Err-clause-value c =
    choice_err c.args.chain.now (draw_at c.args.draws.now.seed c.args.draws.now.trace) c.args.state.now c.args.draws.now.place c.taken_choice.new.draws.place c.in-Err.fault
    c.in-Err.ensures.value

pub returns-in-Err-branches-clause-value : goal.returns-in-Err-branches-clause-value
returns-in-Err-branches-clause-value c =
    branches_err c.args.chain.now (draw_at c.args.draws.now.seed c.args.draws.now.trace) c.args.state.now c.args.draws.now.place c.taken_choice.new.draws.place c.branches.new.draws.place
    c.in-Ok.choice c.in-Err-branches.fault c.in-Ok.ensures.value
    (subst (λ (cs : List ℕ). Gives {X = List ℕ} (Err c.in-Err-branches.fault)
    (branches_of c.args.chain.now (draw_at c.args.draws.now.seed c.args.draws.now.trace) c.args.state.now c.taken_choice.new.draws.place cs)) c.as_slice.ensures
    (subst (λ (draw : ℕ → ℕ). Gives {X = List ℕ} (Err c.in-Err-branches.fault)
    (branches_of c.args.chain.now draw c.args.state.now c.taken_choice.new.draws.place c.as_slice.result.now))
    (ap (λ (p : Place). draw_at p.seed p.trace) c.in-Ok.ensures.stream) c.in-Err-branches.ensures.value))

pub returns-in-Ok-next_state-clause-value : goal.returns-in-Ok-next_state-clause-value
returns-in-Ok-next_state-clause-value c =
    stepped c.args.chain.now (draw_at c.args.draws.now.seed c.args.draws.now.trace) c.args.state.now c.in-Ok-next_state.next.items c.args.draws.now.place c.taken_choice.new.draws.place
    c.branches.new.draws.place c.in-Ok.choice c.in-Ok-branches.branches c.in-Ok.ensures.value
    (ap (λ (draw : ℕ → ℕ). branches_of c.args.chain.now draw c.args.state.now c.taken_choice.new.draws.place c.in-Ok.choice.commands) (sym (ap (λ (p : Place). draw_at p.seed p.trace) c.in-Ok.ensures.stream))
    ∙ ap (branches_of c.args.chain.now (draw_at c.taken_choice.new.draws.seed c.taken_choice.new.draws.trace) c.args.state.now c.taken_choice.new.draws.place) (sym c.as_slice.ensures)
    ∙ c.in-Ok-branches.ensures.value)
    (ap (λ (cs : List ℕ). assigned_to c.args.chain.now c.args.state.now c.args.state.now (all_sets c.args.chain.now cs c.in-Ok-branches.branches)) (sym c.as_slice-2.ensures)
    ∙ ap (λ (bs : List ℕ). assigned_to c.args.chain.now c.args.state.now c.args.state.now (all_sets c.args.chain.now c.as_slice-2.result.now bs)) (sym c.as_slice-3.ensures)
    ∙ c.in-Ok-next_state.ensures)
    (c.in-Ok-branches.ensures.moves ∙ ap (λ (cs : List ℕ). c.taken_choice.new.draws.place + sum (map (command_draws c.args.chain.now) cs)) c.as_slice.ensures)

pub returns-in-Err-next_state-clause-value : goal.returns-in-Err-next_state-clause-value
returns-in-Err-next_state-clause-value c =
    assigned_err c.args.chain.now (draw_at c.args.draws.now.seed c.args.draws.now.trace) c.args.state.now c.args.draws.now.place c.taken_choice.new.draws.place c.branches.new.draws.place
    c.in-Ok.choice c.in-Ok-branches.branches c.in-Err-next_state.fault c.in-Ok.ensures.value
    (ap (λ (draw : ℕ → ℕ). branches_of c.args.chain.now draw c.args.state.now c.taken_choice.new.draws.place c.in-Ok.choice.commands) (sym (ap (λ (p : Place). draw_at p.seed p.trace) c.in-Ok.ensures.stream))
    ∙ ap (branches_of c.args.chain.now (draw_at c.taken_choice.new.draws.seed c.taken_choice.new.draws.trace) c.args.state.now c.taken_choice.new.draws.place) (sym c.as_slice.ensures)
    ∙ c.in-Ok-branches.ensures.value)
    (subst (λ (cs : List ℕ). Gives {X = State} (Err c.in-Err-next_state.fault) (assigned_to c.args.chain.now c.args.state.now c.args.state.now (all_sets c.args.chain.now cs c.in-Ok-branches.branches))) c.as_slice-2.ensures
    (subst (λ (bs : List ℕ). Gives {X = State} (Err c.in-Err-next_state.fault) (assigned_to c.args.chain.now c.args.state.now c.args.state.now (all_sets c.args.chain.now c.as_slice-2.result.now bs))) c.as_slice-3.ensures
    c.in-Err-next_state.ensures))
