-- One module further.
use Rattle.chain_model.specs.Chain.{is_part}
use Rattle.trace_meaning.specs.Guards.{some_enabled}
use Rattle.trace_meaning.proofs.GuardLemmas.{all_next, all_fails}
use Rattle.trace_meaning.proofs.deadlock.all_parts.Goals as goal

pub returns-then-not-there : goal.returns-then-not-there
returns-then-not-there c =
    all_fails (λ owner. some_enabled (is_part c.args.action owner) c.args.state.now c.args.acts.now) c.args.modules.now c.loop-owner.owner-index 0 c.some_part-there.result _
    c.loop-owner-test.true c.some_part-there.ensures c.if-not-there.true c.loop-owner.invariant

pub loop-owner-preserved : goal.loop-owner-preserved
loop-owner-preserved c =
    all_next (λ owner. some_enabled (is_part c.args.action owner) c.args.state.now c.args.acts.now) c.args.modules.now c.loop-owner.owner-index 0 c.some_part-there.result _
    c.loop-owner-test.true c.some_part-there.ensures c.if-not-there.false c.loop-owner.invariant
