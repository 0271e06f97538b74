-- The branch follows from the weights that were read.
use Rattle.std.proofs.Common.{◌≤◌, ◌+◌, ◌^◌, ℕ, List, length, Ok, Err, ap, sym, ◌∙◌, subst, arith}
use Rattle.smc_num.specs.Fraction.{Fraction}
use Rattle.trace_streams.specs.Draws.{draw_at}
use Rattle.chain_model.specs.declared.chain.Arm.{Arm}
use Rattle.chain_model.specs.Step.{arms_of, weights_of, denominator_of, branch_number, draws_for}
use Rattle.trace_meaning.specs.Gives.{Gives}
use Rattle.trace_meaning.proofs.BranchLemmas.{branch_err, branch_denominator, branch_weights, branch_picked, sum_tested, few_tested, weights_long, arms_few}
use Rattle.trace_meaning.proofs.branches.branch.Goals as goal

pub returns-in-Err-clause-value : goal.returns-in-Err-clause-value
returns-in-Err-clause-value c =
    branch_err c.args.chain.now (draw_at c.args.draws.now.seed c.args.draws.now.trace) c.args.state.now c.args.draws.now.place c.args.command c.in-Err.fault
    (subst (λ (arms : List Arm). Gives {X = List Fraction} (Err c.in-Err.fault) (weights_of c.args.state.now c.args.command arms)) c.arms_of.ensures c.in-Err.ensures.value)

pub returns-in-None-clause-value : goal.returns-in-None-clause-value
returns-in-None-clause-value c =
    branch_denominator c.args.chain.now (draw_at c.args.draws.now.seed c.args.draws.now.trace) c.args.state.now c.args.draws.now.place c.args.command c.in-Ok.weights
    (ap (weights_of c.args.state.now c.args.command) (sym c.arms_of.ensures) ∙ c.in-Ok.ensures.value)
    (subst (λ (ws : List Fraction). ¬ (denominator_of ws ≤ 2 ^ 48)) c.as_slice.ensures c.in-None.ensures.value)

pub returns-then-not-add_up-clause-value : goal.returns-then-not-add_up-clause-value
returns-then-not-add_up-clause-value c =
    branch_weights c.args.chain.now (draw_at c.args.draws.now.seed c.args.draws.now.trace) c.args.state.now c.args.draws.now.place c.args.command c.in-Ok.weights
    (ap (weights_of c.args.state.now c.args.command) (sym c.arms_of.ensures) ∙ c.in-Ok.ensures.value)
    (few_tested c.in-Ok.weights c.as_slice.result.now c.in-Some.den c.as_slice.ensures c.in-Some.ensures.value)
    (sum_tested c.in-Ok.weights c.as_slice.result.now c.as_slice-2.result.now c.in-Some.den c.add_up.result c.as_slice.ensures c.as_slice-2.ensures c.in-Some.ensures.value c.add_up.ensures
    ∙ c.if-not-add_up.true)

pub overflow_cast-result : goal.overflow_cast-result
overflow_cast-result c =
    omega (
      arith,
      c.drawn_branch.ensures.within,
      ap (λ (ws : List Fraction). length ws) c.as_slice-3.ensures,
      weights_long c.args.state.now c.args.command (arms_of c.args.chain.now c.args.command) c.in-Ok.weights
          (ap (weights_of c.args.state.now c.args.command) (sym c.arms_of.ensures) ∙ c.in-Ok.ensures.value),
      arms_few c.args.chain.now c.args.command,
    )

pub returns-clause-value : goal.returns-clause-value
returns-clause-value c =
    branch_picked c.args.chain.now (draw_at c.args.draws.now.seed c.args.draws.now.trace) c.args.state.now c.args.draws.now.place c.args.command c.in-Ok.weights
    (ap (weights_of c.args.state.now c.args.command) (sym c.arms_of.ensures) ∙ c.in-Ok.ensures.value)
    (few_tested c.in-Ok.weights c.as_slice.result.now c.in-Some.den c.as_slice.ensures c.in-Some.ensures.value)
    (sum_tested c.in-Ok.weights c.as_slice.result.now c.as_slice-2.result.now c.in-Some.den c.add_up.result c.as_slice.ensures c.as_slice-2.ensures c.in-Some.ensures.value c.add_up.ensures
    ∙ c.if-not-add_up.false)
    ∙ ap Ok (sym (c.drawn_branch.ensures.value ∙ ap (branch_number (draw_at c.args.draws.now.seed c.args.draws.now.trace) c.args.draws.now.place) c.as_slice-3.ensures))

pub returns-clause-moves : goal.returns-clause-moves
returns-clause-moves c =
    c.drawn_branch.ensures.moves
    ∙ ap (λ (n : ℕ). record { seed = c.args.draws.now.seed; trace = c.args.draws.now.trace; place = c.args.draws.now.place + draws_for n })
    (ap (λ (ws : List Fraction). length ws) c.as_slice-3.ensures
    ∙ weights_long c.args.state.now c.args.command (arms_of c.args.chain.now c.args.command) c.in-Ok.weights
    (ap (weights_of c.args.state.now c.args.command) (sym c.arms_of.ensures) ∙ c.in-Ok.ensures.value))
