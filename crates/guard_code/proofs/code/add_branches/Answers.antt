-- One branch further.
use Rattle.std.proofs.Common.{List, map, subst}
use Rattle.chain_model.specs.declared.expressions.Typed.{Typed}
use Rattle.std.specs.Prelude.{ℕ}
use Rattle.guard_code.specs.Means.{Adds}
use Rattle.guard_code.proofs.CodeLemmas.{branches_more}
use Rattle.guard_code.proofs.code.add_branches.Goals as goal

pub loop-arm-preserved : goal.loop-arm-preserved
loop-arm-preserved c =
    branches_more c.args.nodes.now c.loop-arm.nodes c.add.new.nodes c.add_sets.new.nodes c.args.arms.now c.loop-arm.arm-index c.arm-item.result c.loop-arm-test.true c.arm-item.is
    c.loop-arm.invariant c.in_ok-add.ensures
    (subst (λ (sets : List (ℕ × Typed)). Adds c.add.new.nodes c.add_sets.new.nodes (map (λ set. set.1) sets)) c.as_slice.ensures c.in_ok-add_sets.ensures)
