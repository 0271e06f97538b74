-- The constants of the text are those of its list.
use Rattle.std.proofs.Common.{subst}
use Rattle.std.specs.Prelude.{◌⊎◌, OnOk, IfErr}
use Rattle.const_eval.specs.declared.fault.ConstFault.{ConstFault}
use Rattle.const_eval.specs.Refusals.{IsOutOfMemory, IsRefused}
use Rattle.const_eval.proofs.refusals.constants.Goals as goal

pub returns-clause-accepted : goal.returns-clause-accepted
returns-clause-accepted c =
    subst (λ consts. OnOk c.evaluate_all.result ((told : ConstFault) → IsRefused consts c.args.given.now told → ⊥)) c.as_slice.ensures c.evaluate_all.ensures.accepted

pub returns-clause-refused : goal.returns-clause-refused
returns-clause-refused c =
    subst (λ consts. IfErr c.evaluate_all.result (λ told. IsOutOfMemory told ⊎ IsRefused consts c.args.given.now told)) c.as_slice.ensures c.evaluate_all.ensures.refused
