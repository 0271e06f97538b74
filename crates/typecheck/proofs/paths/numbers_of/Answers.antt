use Rattle.std.proofs.Common.{ap}
use Rattle.std.proofs.lemmas.Result.{err_from_is_err_and}
use Rattle.typed_trees.specs.Numbers.{constant_value}
use Rattle.typecheck.specs.Numbers.{fault_of}
use Rattle.typecheck.proofs.RefusalLemmas.{bound-told, time-told}
use Rattle.typecheck.proofs.paths.numbers_of.Goals as goal

pub returns-in_err-bound-clause-told : goal.returns-in_err-bound-clause-told
returns-in_err-bound-clause-told c =
    let told = bound-told (constant_value c.args.consts.now) c.args.property.now c.in_err-bound.field-0.0 c.in_err-bound.ensures.told in
    let exit = err_from_is_err_and c.from_residual.result c.from_residual.ensures.1 in
    rw (exit.1, exit.2) told

pub returns-in_err-kind-clause-told : goal.returns-in_err-kind-clause-told
returns-in_err-kind-clause-told c =
    let told = time-told (constant_value c.args.consts.now) c.args.property.now c.in_err-kind.field-0.0
    (ap fault_of c.in_ok-bound.ensures.value) c.in_err-kind.ensures.told in
    let exit = err_from_is_err_and c.from_residual-in_err-kind.result c.from_residual-in_err-kind.ensures.1 in
    rw (exit.1, exit.2) told
