use Rattle.std.proofs.Common.{ℕ, ◌<◌, length, get_or}
use Rattle.chain_model.specs.declared.chain.Action.{Action}
use Rattle.chain_model.specs.Chain.{IsAction}
use Rattle.chain_model.proofs.building.are_actions.Given as goal

-- each action so far is one of its number
abbrev pub invariant-loop-number : goal.invariant-loop-number
invariant-loop-number l = (number : ℕ) (d : Action) → number < l.number → number < length l.actions → IsAction l.commands number (get_or l.actions number d)
