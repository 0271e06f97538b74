use Rattle.std.proofs.Common.{sym, ◌∙◌}
use Rattle.typecheck.proofs.MappedLemmas.{mapped_more, mapped_here}
use Rattle.typed_trees.specs.Numbers.{constant_value}
use Rattle.typecheck.specs.Ranges.{if_empty}
use Rattle.typecheck.proofs.ranges.first_empty.Goals as goal

pub returns-in-Some : goal.returns-in-Some
returns-in-Some c =
    sym (mapped_here (λ v. v.1.now) c.args.variables.now c.loop-variable.variable-index c.variable-item.result c.loop-variable-test.true c.variable-item.is
    (if_empty (constant_value c.args.consts.now)) c.loop-variable.invariant c.in-Some.name (sym c.in_ok-name.ensures ∙ c.in-Some.is))

pub loop-variable-preserved : goal.loop-variable-preserved
loop-variable-preserved c =
    mapped_more (λ v. v.1.now) c.args.variables.now c.loop-variable.variable-index c.variable-item.result c.loop-variable-test.true c.variable-item.is
    (if_empty (constant_value c.args.consts.now)) c.loop-variable.invariant ∙ (sym c.in_ok-name.ensures ∙ c.in-None.is)
