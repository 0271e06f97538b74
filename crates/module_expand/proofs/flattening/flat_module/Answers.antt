use Rattle.std.proofs.Common.{◌≡◌, bytes_eq, subst, refl}
use Rattle.std.proofs.lemmas.Result.{IfOk-weaker}
use Rattle.indexmap.specs.IndexMap.{get}
use Rattle.prism_syntax.specs.declared.models.Module.TheVariants.{Written}
use Rattle.module_expand.specs.Renamed.{no_names, right_of, as_tree, copied_module}
use Rattle.module_expand.specs.Flat.{flat_module}
use Rattle.module_expand.proofs.FlattenLemmas.{flat_written, flat_renamed, flat_missing}
use Rattle.module_expand.proofs.flattening.flat_module.Goals as goal

pub returns-in-Written : goal.returns-in-Written
returns-in-Written c =
    let modules = c.args.modules.now in
    let item = c.args.item.now in
    let by = get bytes_eq c.args.trees.now in
    IfOk-weaker c.expanded_module.result (λ flat. flat ≡ copied_module no_names by c.in-Written.name item) (λ flat. flat
    ≡ flat_module modules by item)
    (λ flat made. flat_written modules by no_names (λ n. refl) item flat c.in-Written.name c.in-Written.vars
    c.in-Written.commands c.in-Written.is made) c.expanded_module.ensures

pub returns-in_ok-expanded-in-Some : goal.returns-in_ok-expanded-in-Some
returns-in_ok-expanded-in-Some c =
    let modules = c.args.modules.now in
    let item = c.args.item.now in
    let title = c.in-Renamed.name in
    let expanded = c.in_ok-expanded-in-Some.expanded in
    let by = get bytes_eq c.args.trees.now in
    IfOk-weaker c.rename_module.result
    (λ flat. flat ≡ copied_module (right_of c.as_slice.result.now) (as_tree (right_of c.as_slice.result.now))
    title expanded) (λ flat. flat ≡ flat_module modules by item)
    (λ flat made. flat_renamed modules by no_names (λ n. refl) item c.in-Some.written.now expanded flat title c.in-Renamed.from
    c.in-Renamed.pairs
    c.in-Renamed.is c.in-Some.ensures c.in_ok-expanded-in-Some.ensures
    (subst (λ ps. flat ≡ copied_module (right_of ps) (as_tree (right_of ps)) title expanded)
    c.as_slice.ensures made)) c.rename_module.ensures

pub returns-in_ok-copy-in-None : goal.returns-in_ok-copy-in-None
returns-in_ok-copy-in-None c =
    let copy = c.in_ok-copy-in-None.ensures in
    let vars = c.new.ensures in
    let commands = c.new-in-None.ensures in
    flat_missing c.args.modules.now (get bytes_eq c.args.trees.now) c.args.item.now
    (Written c.in_ok-copy-in-None.field-0 c.new.result c.new-in-None.result)
    c.in-Renamed.name c.in-Renamed.from c.in-Renamed.pairs c.in-Renamed.is c.in-None.ensures
    (λ i. Written (copy i) (vars i) (commands i))
