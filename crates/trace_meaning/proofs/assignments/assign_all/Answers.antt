-- One branch further.
use Rattle.std.proofs.Common.{◌+◌, drop, Ok, Err, ap, sym, ◌∙◌, arith}
use Rattle.chain_model.specs.States.{State}
use Rattle.chain_model.specs.Step.{all_sets}
use Rattle.trace_meaning.specs.Assigning.{assigned_to}
use Rattle.trace_meaning.proofs.AssignmentLemmas.{branch_at, past_branches}
use Rattle.trace_meaning.proofs.assignments.assign_all.Goals as goal
use Rattle.trace_meaning.proofs.assignments.assign_all.Goals.{then-index-branches+in-Ok, else-index-branches}

pub returns-in-Err : goal.returns-in-Err
returns-in-Err c =
    sym c.loop-index.invariant
    ∙ branch_at c.args.chain.now c.args.state.now c.loop-index.copy c.args.commands.now c.args.branches.now c.loop-index.index (Err c.in-Err.fault)
    c.loop-index-test.true c.if-index-branches.true
    (ap (assigned_to c.args.chain.now c.args.state.now c.loop-index.copy) (sym c.sets_of.ensures) ∙ c.in-Err.ensures)

pub loop-index-preserved : goal.loop-index-preserved
loop-index-preserved c =
    elim c.if-index-branches.branch [
      | then-index-branches+in-Ok w ↦
          ap (λ (s : State). assigned_to c.args.chain.now c.args.state.now s (all_sets c.args.chain.now (drop (c.loop-index.index + 1) c.args.commands.now) (drop (c.loop-index.index + 1) c.args.branches.now))) w.copy-is
          ∙ sym (branch_at c.args.chain.now c.args.state.now c.loop-index.copy c.args.commands.now c.args.branches.now c.loop-index.index (Ok w.assign.new.copy)
          c.loop-index-test.true w.if-index-branches.true
          (ap (assigned_to c.args.chain.now c.args.state.now c.loop-index.copy) (sym w.sets_of.ensures) ∙ w.in-Ok.ensures))
          ∙ c.loop-index.invariant
      | else-index-branches w ↦
          past_branches c.args.chain.now c.args.state.now c.if-index-branches.copy c.args.commands.now c.args.branches.now (c.loop-index.index + 1) (omega (arith, w.if-index-branches.false))
          ∙ ap Ok w.copy-is
          ∙ sym (past_branches c.args.chain.now c.args.state.now c.loop-index.copy c.args.commands.now c.args.branches.now c.loop-index.index w.if-index-branches.false)
          ∙ c.loop-index.invariant
    ]
