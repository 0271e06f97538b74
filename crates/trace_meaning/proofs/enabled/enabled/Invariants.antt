use Rattle.std.proofs.Common.{◌≡◌, drop}
use Rattle.chain_model.specs.Choices.{enabled_from}
use Rattle.trace_meaning.proofs.ResultLemmas.{prepend}
use Rattle.trace_meaning.proofs.enabled.enabled.Given as goal

-- the commands so far, and those among the others
abbrev pub invariant-loop-number : goal.invariant-loop-number
invariant-loop-number l = prepend l.numbers (enabled_from l.number l.state (drop l.number l.acts)) ≡ enabled_from 0 l.state l.acts
