use Rattle.std.proofs.Common.{rules, arith, ◌≤◌}
use Rattle.chain_model.proofs.OrderLemmas.{pairs-from_neighbours}
use Rattle.chain_model.proofs.building.go_by_module.Goals as goal

pub returns : goal.returns
returns c = (
  λ _. pairs-from_neighbours (λ a b. a.module ≤ b.module) (λ x y z first second. omega (arith, first, second)) c.args.commands.now
      (λ k d within. c.loop-index.invariant k d (omega (arith, within, c.loop-index-test.false))),
  λ _. search rules,
)
