-- The flat text of a model.
use Rattle.std.specs.Prelude.{◌≡◌, List, [], Option, Bool, false, map, find, bytes_eq, unwrap_or}
use Rattle.std.specs.Option.{option_map}
use Rattle.prism_syntax.specs.declared.expressions.Expr.{Expr}
use Rattle.prism_syntax.specs.declared.models.ConstText.{ConstText}
use Rattle.prism_syntax.specs.declared.models.Named.{Named}
use Rattle.prism_syntax.specs.declared.models.Module.{Module}
use Rattle.prism_syntax.specs.declared.models.Module.TheVariants.{Written, Renamed}
use Rattle.prism_syntax.specs.declared.models.ModelText.{ModelText}
use Rattle.prism_syntax.specs.declared.models.FlatText.{FlatText}
use Rattle.prism_syntax.specs.Replaced.{replaced}
use Rattle.prism_names.specs.First.{Name}
use Rattle.module_expand.specs.Expanded.{stands_for, with_body, AreExpanded}
use Rattle.module_expand.specs.Renamed.{no_names, right_of, as_tree, copied_variable, copied_module}

-- whether a module is written out under this name
abbrev pub is_written_as : Name → Module → Bool
is_written_as name (Written title vars commands) = bytes_eq title name
is_written_as name (Renamed title source pairs) = false

-- the first module that is written out under this name; an empty one where there is none
abbrev pub source_of : List Module → Name → Module
source_of modules name = unwrap_or (find (is_written_as name) modules) (Written name [] [])

-- a constant with each name of its value replaced by what it stands for
abbrev pub flat_const : (Name → Option Expr) → ConstText → ConstText
flat_const by c = record { name = c.name; sort = c.sort; value = option_map (replaced by) c.value }

-- a module of the flat text: each name is replaced by what it stands for, and a renamed module is a copy of its
-- source, in which that was done before, with all pairs applied at once
abbrev pub flat_module : List Module → (Name → Option Expr) → Module → Module
flat_module modules by (Written title vars commands) = copied_module no_names by title (Written title vars commands)
flat_module modules by (Renamed title source pairs) =
    copied_module (right_of pairs) (as_tree (right_of pairs)) title
    (copied_module no_names by title (source_of modules source))

-- the flat text that these formulas' trees make of a model
abbrev pub flat_of : ModelText → List Named → FlatText
flat_of m trees = let by : Name → Option Expr = stands_for trees in record {
  consts = map (flat_const by) m.consts;
  globals = map (copied_variable no_names by) m.globals;
  formulas = trees;
  modules = map (flat_module m.modules by) m.modules;
  labels = map (with_body (replaced by)) m.labels;
}

-- a flat text is that of a model: its formulas are the model's, expanded, and their trees make the rest of it
pub record IsFlat (m : ModelText) (flat : FlatText) : Type 0 where
  pub formulas : AreExpanded m.formulas flat.formulas
  pub rest : flat ≡ flat_of m flat.formulas

-- a model has one flat text at most
abbrev pub HasOneFlat : Type 0
HasOneFlat = (m : ModelText) (flat other : FlatText) → IsFlat m flat → IsFlat m other → flat ≡ other
