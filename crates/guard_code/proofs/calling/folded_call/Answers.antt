-- A call of literals has its value in every state.
use Rattle.std.proofs.Common.{[], refl, sym}
use Rattle.chain_model.specs.Choices.{no_labels}
use Rattle.guard_code.proofs.KindLemmas.{fixed_call}
use Rattle.guard_code.proofs.calling.folded_call.Goals as goal

pub returns-in-Ok : goal.returns-in-Ok
returns-in-Ok c = record { same = fixed_call no_labels [] c.args.func c.args.parts.now c.in-Ok.value (c.if-not-all_fixed.ensures refl) (sym c.in-Ok.ensures) }
