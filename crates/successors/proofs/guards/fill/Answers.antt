-- The bytes say which commands are enabled, or the first guard that faults is the choices' fault.
use Rattle.std.proofs.Common.{arith}
use Rattle.guard_code.proofs.RunLemmas.{small_state}
use Rattle.successors.proofs.GuardLemmas.{filled}
use Rattle.successors.proofs.guards.fill.Goals as goal

pub returns : goal.returns
returns c =
    let told = filled c.args.chain.now c.args.state.now c.args.guards.now c.write_guards.new.bytes c.write_guards.result c.requires.guards (small_state c.args.chain.now c.args.state.now c.requires.state)
    (omega (arith, c.write_guards.auto.bytes, c.requires.long)) c.write_guards.ensures.enabled in
    record { enabled = told.0; found = c.write_guards.ensures.found; fault = told.1 }

pub write_guards-requires-clause-few : goal.write_guards-requires-clause-few
write_guards-requires-clause-few c = omega (arith, c.requires.guards.long, c.args.chain.now.well_formed.few_commands)
