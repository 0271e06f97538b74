-- The choice is that of one command, or an action's.
use Rattle.std.proofs.Common.{◌∙◌, arith}
use Rattle.successors.specs.Enabled.{is_enabled}
use Rattle.successors.proofs.PlaceLemmas.{single_here, joint_here}
use Rattle.successors.proofs.decoding.write_numbered.Goals as goal

pub returns-then-number-alone-clause-value : goal.returns-then-number-alone-clause-value
returns-then-number-alone-clause-value c =
    single_here (is_enabled c.args.lane c.args.enabled.now) c.args.singles.now c.args.actions.now c.args.number c.nth_enabled.result c.args.chosen.now
    (omega (arith, c.if-number-alone.true, c.count_enabled-alone.ensures.value)) c.nth_enabled.ensures c.requires.some

pub returns-clause-value : goal.returns-clause-value
returns-clause-value c =
    joint_here (is_enabled c.args.lane c.args.enabled.now) c.args.singles.now c.args.actions.now c.args.number c.count_enabled-alone.result c.count_enabled-alone.ensures.value c.if-number-alone.false
    ∙ c.write_action.ensures.value
