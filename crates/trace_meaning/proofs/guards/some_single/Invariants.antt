use Rattle.std.proofs.Common.{◌≡◌, drop}
use Rattle.chain_model.specs.Chain.{is_unlabelled}
use Rattle.trace_meaning.specs.Guards.{some_enabled}
use Rattle.trace_meaning.proofs.guards.some_single.Given as goal

-- none so far is enabled
abbrev pub invariant-loop-act : goal.invariant-loop-act
invariant-loop-act l = some_enabled is_unlabelled l.state (drop l.act-index l.acts) ≡ some_enabled is_unlabelled l.state l.acts
