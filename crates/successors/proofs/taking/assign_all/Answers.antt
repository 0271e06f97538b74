-- One branch further.
use Rattle.std.proofs.Common.{arith}
use Rattle.chain_model.specs.Step.{all_sets}
use Rattle.trace_meaning.specs.Assigning.{assigned_to}
use Rattle.successors.proofs.TakingLemmas.{assigned_further, assigned_fault}
use Rattle.successors.proofs.taking.assign_all.Goals as goal

pub returns-in-Err : goal.returns-in-Err
returns-in-Err c =
    assigned_fault c.args.chain.now c.args.state.now c.loop-index.copy c.args.chosen.now c.args.branches.now c.loop-index.index c.sides_taken-sides.result.now c.in-Err.fault
    (assigned_to c.args.chain.now c.args.state.now c.args.copy.now (all_sets c.args.chain.now c.args.chosen.now c.args.branches.now))
    c.loop-index-test.true (omega (arith, c.loop-index-test.true, c.requires.long)) c.sides_taken-sides.ensures c.requires.small c.in-Err.ensures c.loop-index.invariant

pub loop-index-preserved : goal.loop-index-preserved
loop-index-preserved c =
    assigned_further c.args.chain.now c.args.state.now c.loop-index.copy c.assign.new.copy c.args.chosen.now c.args.branches.now c.loop-index.index c.sides_taken-sides.result.now
    (assigned_to c.args.chain.now c.args.state.now c.args.copy.now (all_sets c.args.chain.now c.args.chosen.now c.args.branches.now))
    c.loop-index-test.true (omega (arith, c.loop-index-test.true, c.requires.long)) c.sides_taken-sides.ensures c.requires.small c.in-Ok.ensures c.loop-index.invariant
