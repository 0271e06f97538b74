-- The thresholds are those of the command.
use Rattle.std.proofs.Common.{ℕ, List, sym, subst}
use Rattle.successors.specs.Weighing.{HasThresholds, IsWeighing}
use Rattle.successors.proofs.BranchingLemmas.{by_coin}
use Rattle.successors.proofs.branching.by_weighing.Goals as goal

pub returns-in-Coin : goal.returns-in-Coin
returns-in-Coin c =
    c.by_threshold.ensures c.args.chain.now c.args.state.now c.args.command
    (by_coin c.args.chain.now c.args.state.now c.args.command c.in-Coin.threshold
    c.requires.small (subst (IsWeighing c.args.chain.now c.args.command) c.in-Coin.is c.requires.weighing))

pub returns-in-Fixed : goal.returns-in-Fixed
returns-in-Fixed c =
    c.by_thresholds.ensures c.args.chain.now c.args.state.now c.args.command c.requires.small
    (subst (λ (ts : List ℕ). HasThresholds c.args.chain.now c.args.command ts) (sym c.as_slice.ensures)
    (subst (IsWeighing c.args.chain.now c.args.command) c.in-Fixed.is c.requires.weighing))
