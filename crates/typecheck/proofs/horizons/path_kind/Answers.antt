use Rattle.std.proofs.Common.{◌≡◌, rules, arith}
use Rattle.std.proofs.lemmas.Grind.{common_steps}
use Rattle.std.specs.Prelude.{Some}
use Rattle.typed_trees.specs.Numbers.{constant_value}
use Rattle.typecheck.specs.Formulas.{time_of}
use Rattle.typecheck.proofs.RefusalLemmas.{told-at}
use Rattle.typecheck.proofs.horizons.path_kind.Goals as goal

pub returns-in_err-horizon-in-Finally-clause-told : goal.returns-in_err-horizon-in-Finally-clause-told
returns-in_err-horizon-in-Finally-clause-told c =
    let at : time_of c.args.path.now ≡ Some c.in-Finally.time = search rules in
    let told = told-at (constant_value c.args.consts.now) c.args.path.now c.in-Finally.time c.in_err-horizon-in-Finally.field-0.0 at c.in_err-horizon-in-Finally.ensures.told in
    first_of (search (rules, told), grind (arith, told), grind (arith, common_steps, told))

pub returns-in_err-horizon-in-Globally-clause-told : goal.returns-in_err-horizon-in-Globally-clause-told
returns-in_err-horizon-in-Globally-clause-told c =
    let at : time_of c.args.path.now ≡ Some c.in-Globally.time = search rules in
    let told = told-at (constant_value c.args.consts.now) c.args.path.now c.in-Globally.time c.in_err-horizon-in-Globally.field-0.0 at c.in_err-horizon-in-Globally.ensures.told in
    first_of (search (rules, told), grind (arith, told), grind (arith, common_steps, told))

pub returns-in_err-horizon-in-Until-clause-told : goal.returns-in_err-horizon-in-Until-clause-told
returns-in_err-horizon-in-Until-clause-told c =
    let at : time_of c.args.path.now ≡ Some c.in-Until.time = search rules in
    let told = told-at (constant_value c.args.consts.now) c.args.path.now c.in-Until.time c.in_err-horizon-in-Until.field-0.0 at c.in_err-horizon-in-Until.ensures.told in
    first_of (search (rules, told), grind (arith, told), grind (arith, common_steps, told))
