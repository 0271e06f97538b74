-- A chain of literals has its value in every state.
use Rattle.std.proofs.Common.{[], refl, sym}
use Rattle.chain_model.specs.Choices.{no_labels}
use Rattle.guard_code.proofs.KindLemmas.{fixed_chain}
use Rattle.guard_code.proofs.joining.folded_chain.Goals as goal

pub returns-in-Ok : goal.returns-in-Ok
returns-in-Ok c = record { same = fixed_chain no_labels [] c.args.parts.now c.args.ops.now c.in-Ok.value (c.if-not-all_fixed.ensures refl) (sym c.in-Ok.ensures) }
