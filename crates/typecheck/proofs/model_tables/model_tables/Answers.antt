use Rattle.std.proofs.Common.{◌≡◌, ℕ, Option, map, bytes_eq, sym, ap, ◌∙◌}
use Rattle.std.specs.Map.{lookup}
use Rattle.std.proofs.lemmas.Result.{IfOk-at_ok}
use Rattle.prism_syntax.specs.declared.models.Variable.{Variable}
use Rattle.prism_names.specs.First.{Name}
use Rattle.chain_model.specs.declared.values.Sort.{Sort}
use Rattle.typed_trees.specs.Leaves.{numbered}
use Rattle.typed_trees.specs.Scopes.{IsTable}
use Rattle.prism_syntax.specs.declared.commands.Command.{Command}
use Rattle.typecheck.specs.Declarations.{declared_sort, declared_variables, declared_commands, variable_sorts}
use Rattle.typecheck.specs.Owners.{AreOwners}
use Rattle.typecheck.proofs.DeclaredLemmas.{map-map}
use Rattle.typecheck.proofs.model_tables.model_tables.Goals as goal

pub returns : goal.returns
returns c =
    let flat = c.args.flat.now in
    let listed = IfOk-at_ok (λ list. map {B = Option ℕ × Variable} (λ v. (v.0, v.1.now)) list.items ≡ declared_variables flat)
    c.in_ok-variables.ensures.first c.declared_variables.ensures in
    let sorts : map {B = Name × Sort} (λ v. (v.1.now.name, declared_sort v.1.now)) c.as_slice.result.now ≡ variable_sorts flat =
    ap (map {B = Name × Sort} (λ v. (v.1.now.name, declared_sort v.1.now))) c.as_slice.ensures.value
    ∙ (sym (map-map {Y = Option ℕ × Variable} (λ v. (v.1.name, declared_sort v.1)) (λ v. (v.0, v.1.now)) c.in_ok-variables.variables.items)
    ∙ ap (map {B = Name × Sort} (λ v. (v.1.name, declared_sort v.1))) listed) in
    let owners : map {B = Name × Option ℕ} (λ v. (v.1.now.name, v.0)) c.as_slice-2.result.now ≡ map (λ v. (v.1.name, v.0)) (declared_variables flat) =
    ap (map {B = Name × Option ℕ} (λ v. (v.1.now.name, v.0))) c.as_slice-2.ensures.value
    ∙ (sym (map-map {Y = Option ℕ × Variable} (λ v. (v.1.name, v.0)) (λ v. (v.0, v.1.now)) c.in_ok-variables.variables.items)
    ∙ ap (map {B = Name × Option ℕ} (λ v. (v.1.name, v.0))) listed) in
    let treed = IfOk-at_ok (λ table. IsTable table (numbered (map {B = Name × Sort} (λ v. (v.1.now.name, declared_sort v.1.now)) c.as_slice.result.now)))
    c.in_ok-trees.ensures.first c.declared_table.ensures in
    let owned = IfOk-at_ok (λ table. AreOwners table (map {B = Name × Option ℕ} (λ v. (v.1.now.name, v.0)) c.as_slice-2.result.now))
    c.in_ok-trees.ensures.second c.owner_table.ensures in
    record {
      variables = listed;
      commands = IfOk-at_ok (λ list. map {B = ℕ × Command} (λ d. (d.0, d.1.now)) list.items ≡ declared_commands flat)
          c.in_ok-variables.ensures.second c.declared_commands.ensures;
      trees = λ name. treed name ∙ ap (λ ss. lookup (bytes_eq name) (numbered ss)) sorts;
      owners = λ name. owned name ∙ ap (lookup (bytes_eq name)) owners;
      nothing = λ name. ap (lookup (bytes_eq name)) c.new.ensures.empty;
    }
