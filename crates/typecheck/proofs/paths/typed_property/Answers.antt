use Rattle.std.proofs.Common.{◌≡◌, ap, true}
use Rattle.std.specs.Prelude.{◌⊎◌, Ok, None}
use Rattle.std.proofs.lemmas.Result.{err_from_is_err_and, IfOk-at_ok}
use Rattle.chain_model.specs.declared.job.PathKind.{PathKind}
use Rattle.chain_model.specs.declared.values.Value.{Value}
use Rattle.typed_trees.specs.Numbers.{constant_value}
use Rattle.typed_trees.specs.Scopes.{name_in, label_in, tree_in}
use Rattle.typecheck.specs.declared.fault.TypeFault.{TypeFault}
use Rattle.typecheck.specs.declared.fault.TypeFault.TheVariants as fault
use Rattle.typecheck.specs.declared.fault.Item.TheVariants as item
use Rattle.typecheck.specs.Numbers.{fault_of}
use Rattle.typecheck.specs.Paths.{HasKind}
use Rattle.typecheck.specs.PathRefusals.{property_fits, time_fault, IsRefusedAs}
use Rattle.typecheck.specs.Refusals.{IsTold, failing, IsOutOfMemory}
use Rattle.typecheck.proofs.PairLemmas.{failed-either}
use Rattle.typecheck.proofs.RefusalLemmas.{TellsNumber, at-types, at-numbers, not-refused}
use Rattle.typecheck.proofs.paths.typed_property.Goals as goal

pub returns-in_err-first-clause-refused : goal.returns-in_err-first-clause-refused
returns-in_err-first-clause-refused c =
    let property = c.args.property.now in
    let values = constant_value c.args.consts.now in
    let constant_tree = tree_in c.args.constants.now in
    let tree = tree_in c.args.scope.now in
    let constants = name_in c.args.constants.now in
    let names = name_in c.args.scope.now in
    let labels = label_in c.args.scope.now in
    let f = c.in_err-first.field-0.0 in
    let known = c.in_ok-refuse_unknown_names.ensures.known in
    let labelled = c.in_ok-refuse_unknown_labels.ensures.known in
    let told = failed-either c.typed_formulas.result c.numbers_of.result f
    (λ (g : TypeFault). IsOutOfMemory g ⊎ IsTold (failing (property_fits constant_tree tree property)) (λ _ h. h ≡ fault.WrongType item.Property) g)
    (λ (g : TypeFault). IsOutOfMemory g ⊎ TellsNumber values property g) (property_fits constant_tree tree property ≡ true)
    (IsOutOfMemory f ⊎ IsRefusedAs constant_tree tree constants names labels values property f)
    c.in_err-first.ensures.failed c.typed_formulas.ensures.told c.typed_formulas.ensures.fit c.numbers_of.ensures.told
    (λ told. at-types constant_tree tree constants names labels values property f known labelled told)
    (λ fit told. at-numbers constant_tree tree constants names labels values property f known labelled fit told) in
    let exit = err_from_is_err_and c.from_residual-in_err-first.result c.from_residual-in_err-first.ensures.1 in
    rw (exit.1, exit.2) told

pub returns-clause-accepted : goal.returns-clause-accepted
returns-clause-accepted c = λ f told.
    let property = c.args.property.now in
    let values = constant_value c.args.consts.now in
    let constant_tree = tree_in c.args.constants.now in
    let tree = tree_in c.args.scope.now in
    let first = c.in_ok-first.ensures.first in
    let second = c.in_ok-first.ensures.second in
    let fit = IfOk-at_ok (λ _. (property_fits constant_tree tree property ≡ true)) first c.typed_formulas.ensures.fit in
    let bound = IfOk-at_ok (λ (n : Value × PathKind). values property.bound ≡ Ok n.0) second c.numbers_of.ensures.bound in
    let kind = IfOk-at_ok (λ (n : Value × PathKind). HasKind values property.path n.1) second c.numbers_of.ensures.kind in
    let valued = IfOk-at_ok (λ _. (time_fault values property.path ≡ None)) second c.numbers_of.ensures.valued in
    not-refused constant_tree tree (name_in c.args.constants.now) (name_in c.args.scope.now) (label_in c.args.scope.now) values property f
    c.in_ok-refuse_unknown_names.ensures.known c.in_ok-refuse_unknown_labels.ensures.known fit (ap fault_of bound) valued
    c.in_ok-first.kind kind told
