-- The flat text from its parts.
use Rattle.std.proofs.Common.{◌≡◌, List, [], Option, map, find, unwrap_or, sym, ap, ◌∙◌}
use Rattle.std.specs.Prelude.{None, Some}
use Rattle.prism_syntax.specs.declared.expressions.Expr.{Expr}
use Rattle.prism_syntax.specs.declared.commands.Command.{Command}
use Rattle.prism_syntax.specs.declared.models.Named.{Named}
use Rattle.prism_syntax.specs.declared.models.Variable.{Variable}
use Rattle.prism_syntax.specs.declared.models.Module.{Module}
use Rattle.prism_syntax.specs.declared.models.Module.TheVariants.{Written, Renamed}
use Rattle.prism_syntax.specs.declared.models.ModelText.{ModelText}
use Rattle.prism_syntax.specs.declared.models.FlatText.{FlatText}
use Rattle.prism_syntax.specs.Replaced.{replaced}
use Rattle.prism_names.specs.First.{Name}
use Rattle.module_expand.specs.Expanded.{stands_for, with_body, AreExpanded}
use Rattle.module_expand.specs.Renamed.{no_names, right_of, as_tree, copied_variable, copied_module}
use Rattle.module_expand.specs.Flat.{is_written_as, source_of, flat_const, flat_module, flat_of}

-- none is an empty table of names
module _ (modules : List Module) (by : Name → Option Expr) (none : Name → Option Name) (empty : (n : Name) → none n
    ≡ None) where
  nothing : none ≡ no_names
  nothing = λ i n. empty n i

  -- a module that is written out
  pub flat_written : (item copy : Module) (title : Name) (vars : List Variable) (commands : List Command)
      → item ≡ Written title vars commands → copy ≡ copied_module none by title item → copy
      ≡ flat_module modules by item
  flat_written item copy title vars commands is made =
      made ∙ (ap (λ names. copied_module names by title item) nothing ∙ (ap (copied_module no_names by title) is
      ∙ sym (ap (flat_module modules by) is)))

  -- a renamed module, by its source
  pub flat_renamed : (item from expanded copy : Module) (title source : Name) (pairs : List (Name × Name))
      → item ≡ Renamed title source pairs → Some from ≡ find (is_written_as source) modules → expanded
      ≡ copied_module none by title from
      → copy ≡ copied_module (right_of pairs) (as_tree (right_of pairs)) title expanded → copy
      ≡ flat_module modules by item
  flat_renamed item from expanded copy title source pairs is found before made =
      made ∙ (ap (copied_module (right_of pairs) (as_tree (right_of pairs)) title) whole
      ∙ sym (ap (flat_module modules by) is))
    where
      whole : expanded ≡ copied_module no_names by title (source_of modules source)
      whole = before ∙ (ap (λ f. copied_module f by title from) nothing
          ∙ ap (λ o. copied_module no_names by title (unwrap_or o (Written source [] []))) found)

-- the same copy by tables that give the same names and trees
pub same_copy : (names other : Name → Option Name) (trees more : Name → Option Expr) (title : Name)
    (from copy : Module) → ((n : Name) → names n ≡ other n)
    → ((n : Name) → trees n ≡ more n) → copy ≡ copied_module names trees title from → copy
    ≡ copied_module other more title from
same_copy names other trees more title from copy names_are trees_are made = made
    ∙ (λ i. copied_module (λ n. names_are n i) (λ n. trees_are n i) title from)

-- a renamed module whose source isn't there
pub flat_missing : (modules : List Module) (by : Name → Option Expr) (item copy : Module) (title source : Name)
    (pairs : List (Name × Name))
    → item ≡ Renamed title source pairs → None ≡ find (is_written_as source) modules → copy ≡ Written title [] []
    → copy ≡ flat_module modules by item
flat_missing modules by item copy title source pairs is found made =
    made ∙ (ap (λ o. copied_module (right_of pairs) (as_tree (right_of pairs)) title (copied_module no_names by title
    (unwrap_or o (Written source [] [])))) found
    ∙ sym (ap (flat_module modules by) is))

-- the flat text from its five lists
pub flat_parts : (m : ModelText) (formulas : List Named) (by : Name → Option Expr) (none : Name → Option Name)
    (flat : FlatText) → AreExpanded m.formulas formulas
    → ((n : Name) → by n ≡ stands_for formulas n) → ((n : Name) → none n ≡ None) → flat.consts
    ≡ map (flat_const by) m.consts
    → flat.globals ≡ map (copied_variable none by) m.globals → flat.formulas ≡ map (with_body (replaced by)) m.formulas
    → flat.modules ≡ map (flat_module m.modules by) m.modules → flat.labels ≡ map (with_body (replaced by)) m.labels
    → flat ≡ flat_of m formulas
flat_parts m formulas by none flat expanded are empty consts globals bodies modules labels = λ i. record {
  consts = (consts ∙ ap (λ f. map (flat_const f) m.consts) same) i;
  globals = (globals ∙ (λ j. map (copied_variable (λ n. empty n j) (same j)) m.globals)) i;
  formulas = (bodies ∙ (ap (λ f. map (with_body (replaced f)) m.formulas) same ∙ sym expanded)) i;
  modules = (modules ∙ ap (λ f. map (flat_module m.modules f) m.modules) same) i;
  labels = (labels ∙ ap (λ f. map (with_body (replaced f)) m.labels) same) i;
}
  where
    same : by ≡ stands_for formulas
    same = λ i n. are n i
