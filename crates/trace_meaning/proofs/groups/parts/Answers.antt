use Rattle.std.specs.Prelude.{filter}
use Rattle.chain_model.specs.Choices.{command_is}
use Rattle.chain_model.specs.Chain.{is_part}
use Rattle.trace_meaning.proofs.GroupLemmas.{pushed_next}
use Rattle.trace_meaning.proofs.groups.parts.Goals as goal

pub loop-owner-preserved : goal.loop-owner-preserved
loop-owner-preserved c =
    pushed_next (λ m. filter (command_is (is_part c.args.action m) c.args.acts.now) c.args.enabled.now) c.args.modules.now c.loop-owner.owner-index _ c.in-Ok.list c.loop-owner.lists c.push.new.self _
    c.loop-owner-test.true c.in-Ok.ensures c.in-Ok-push.ensures.ok c.loop-owner.invariant
