use Rattle.std.proofs.Common.{rules, arith, ◌<◌}
use Rattle.chain_model.proofs.OrderLemmas.{pairs-from_neighbours}
use Rattle.chain_model.proofs.building.rise.Goals as goal

pub returns : goal.returns
returns c = (
  λ _. pairs-from_neighbours ◌<◌ (λ x y z first second. omega (arith, first, second)) c.args.modules.now
      (λ k d within. c.loop-index.invariant k d (omega (arith, within, c.loop-index-test.false))),
  λ _. search rules,
)
