use Rattle.std.proofs.Common.{◌≡◌, drop}
use Rattle.trace_meaning.specs.Guards.{guards_fault}
use Rattle.trace_meaning.proofs.guards.guards_fault.Given as goal

-- none of the guards so far faults
abbrev pub invariant-loop-act : goal.invariant-loop-act
invariant-loop-act l = guards_fault l.state (drop l.act-index l.acts) ≡ guards_fault l.state l.acts
