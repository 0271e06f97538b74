-- No command is left.
use Rattle.std.proofs.Common.{ℕ, List, subst}
use Rattle.std.proofs.lemmas.List.{drop_all}
use Rattle.guard_code.proofs.RunLemmas.{small_state}
use Rattle.successors.specs.Branching.{IsLed}
use Rattle.successors.proofs.LeadLemmas.{led_last}
use Rattle.successors.proofs.telling.lead.Goals as goal

pub lead_on-told-requires-clause-small : goal.lead_on-told-requires-clause-small
lead_on-told-requires-clause-small c = small_state c.args.chain.now c.args.state.now c.requires.state

pub returns : goal.returns
returns c =
    led_last c.args.chain.now c.args.state.now c.loop-command.first c.loop-command.second c.args.chosen.now c.loop-command.told c.requires.only
    (subst (λ (left : List ℕ). IsLed c.args.chain.now c.args.state.now c.args.chosen.now left c.loop-command.told c.loop-command.first c.loop-command.second)
    (drop_all c.loop-command.command-index c.args.chosen.now c.loop-command-test.false) c.loop-command.invariant)
