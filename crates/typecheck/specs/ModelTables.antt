-- What the tables of a flat model say.
use Rattle.std.specs.Prelude.{◌≡◌, ℕ, Option, None, map, bytes_eq}
use Rattle.indexmap.specs.IndexMap.{get}
use Rattle.prism_syntax.specs.declared.commands.Command.{Command}
use Rattle.prism_syntax.specs.declared.models.Variable.{Variable}
use Rattle.prism_syntax.specs.declared.models.FlatText.{FlatText}
use Rattle.prism_names.specs.First.{Name}
use Rattle.typed_trees.specs.Leaves.{variable_leaf}
use Rattle.typecheck.specs.declared.model_tables.Tables.{Tables}
use Rattle.typecheck.specs.Declarations.{declared_variables, declared_commands, variable_sorts}
use Rattle.typecheck.specs.Writes.{owner_in}

-- tables have the variables and the commands of a flat model, and what its variables' names stand for
pub record AreTables (tables : Tables) (flat : FlatText) : Type 0 where
  pub variables : map {B = Option ℕ × Variable} (λ v. (v.0, v.1.now)) tables.variables.items ≡ declared_variables flat
  pub commands : map {B = ℕ × Command} (λ c. (c.0, c.1.now)) tables.commands.items ≡ declared_commands flat
  pub trees : (name : Name) → get bytes_eq tables.trees name ≡ variable_leaf (variable_sorts flat) name
  pub owners : (name : Name) → get bytes_eq tables.owners name ≡ owner_in (declared_variables flat) name
  pub nothing : (name : Name) → get bytes_eq tables.nothing name ≡ None
