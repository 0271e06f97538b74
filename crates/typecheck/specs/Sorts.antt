-- What the tables of a scope say of the variables of a flat model.
use Rattle.std.specs.Prelude.{◌≡◌, List, Option, None, bytes_eq}
use Rattle.indexmap.specs.IndexMap.{get}
use Rattle.chain_model.specs.declared.values.Sort.{Sort}
use Rattle.prism_names.specs.First.{Name}
use Rattle.const_eval.specs.declared.consts.Constant.{Constant}
use Rattle.typed_trees.specs.Leaves.{variable_leaf}
use Rattle.typed_trees.specs.declared.scopes.Scope.{Scope}
use Rattle.typecheck.specs.ModelRefusals.{sort_by}

-- the sort of the variable of a name
abbrev pub sort_in : Scope → Name → Option Sort
sort_in scope = sort_by (get bytes_eq scope.variables.now)

-- a scope has these constants, and these variables with their sorts; no label stands for anything
pub record IsScope (scope : Scope) (consts : List (Name × Constant)) (vars : List (Name × Sort)) : Type 0 where
  pub constants : scope.consts.now ≡ consts
  pub variables : (name : Name) → get bytes_eq scope.variables.now name ≡ variable_leaf vars name
  pub labels : (name : Name) → get bytes_eq scope.labels.now name ≡ None
