-- What names and labels stand for by the tables of a scope.
use Rattle.std.specs.Prelude.{◌≡◌, List, Option, bytes_eq}
use Rattle.std.specs.Option.{option_or}
use Rattle.std.specs.Map.{lookup}
use Rattle.indexmap.specs.IndexMap.{IndexMap, get}
use Rattle.chain_model.specs.declared.expressions.Typed.{Typed}
use Rattle.prism_syntax.specs.declared.expressions.Expr.{Expr}
use Rattle.prism_names.specs.First.{Name}
use Rattle.typed_trees.specs.declared.scopes.Scope.{Scope}
use Rattle.typed_trees.specs.Leaves.{constant_leaf}
use Rattle.typed_trees.specs.Trees.{tree_of}

-- a table has the first of these trees of each name
abbrev pub IsTable : {S : Type 0} → IndexMap Name Typed S → List (Name × Typed) → Type 0
IsTable table trees = (name : Name) → get bytes_eq table name ≡ lookup (bytes_eq name) trees

-- a name stands for a constant or, where it is none, for what the table of variables has
abbrev pub name_in : Scope → Name → Option Typed
name_in scope name = option_or (constant_leaf scope.consts.now name) (get bytes_eq scope.variables.now name)

-- the name of a label stands for what the table of labels has
abbrev pub label_in : Scope → Name → Option Typed
label_in scope name = get bytes_eq scope.labels.now name

-- the typed tree of an expression in a scope
abbrev pub tree_in : Scope → Expr → Option Typed
tree_in scope = tree_of (name_in scope) (label_in scope)
