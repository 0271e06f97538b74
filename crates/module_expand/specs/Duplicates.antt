-- The declarations of a model, and the first whose name another declaration of its kind repeats.
use Rattle.std.specs.Prelude.{List, [], ◌∷◌, ◌++◌, Option, Bool, true, false, ◌&&◌, map, find, bytes_eq, count_by, nat_lt, codes}
use Rattle.std.specs.Option.{option_map}
use Rattle.std.specs.List.{flat_map, filter_map}
use Rattle.prism_syntax.specs.declared.models.Module.{Module}
use Rattle.prism_syntax.specs.declared.models.Module.TheVariants.{Written, Renamed}
use Rattle.prism_syntax.specs.declared.models.ModelText.{ModelText}
use Rattle.prism_syntax.specs.declared.models.FlatText.{FlatText}
use Rattle.prism_names.specs.First.{Name, AreDistinct}
use Rattle.module_expand.specs.declared.declarations.Kind.{Kind}
use Rattle.module_expand.specs.declared.declarations.Kind.TheVariants as kind
use Rattle.module_expand.specs.Renamed.{right_of, variables_of}
use Rattle.module_expand.specs.Flat.{source_of}

-- a declared name with its kind
abbrev pub Declaration : Type 0
Declaration = Kind × Name

-- whether two kinds are the same
abbrev pub same_kind : Kind → Kind → Bool
same_kind kind.Value kind.Value = true
same_kind kind.Value kind.Module = false
same_kind kind.Value kind.Label = false
same_kind kind.Module kind.Value = false
same_kind kind.Module kind.Module = true
same_kind kind.Module kind.Label = false
same_kind kind.Label kind.Value = false
same_kind kind.Label kind.Module = false
same_kind kind.Label kind.Label = true

-- whether two declarations are of one kind and one name
abbrev pub is_same : Declaration → Declaration → Bool
is_same a b = same_kind b.0 a.0 && bytes_eq b.1 a.1

-- values of these names
abbrev pub values : List Name → List Declaration
values names = map (λ name. (kind.Value, name)) names

-- labels of these names
abbrev pub label_declarations : List Name → List Declaration
label_declarations names = map (λ name. (kind.Label, name)) names

-- the name of a module
abbrev pub title_of : Module → Name
title_of (Written title vars commands) = title
title_of (Renamed title source pairs) = title

-- the names of the variables that a module declares: its own, or the new names of its source's, as far as they have one
abbrev pub declared_by : List Module → Module → List Name
declared_by modules (Written title vars commands) = map (λ v. v.name) vars
declared_by modules (Renamed title source pairs) =
    filter_map (λ v. right_of pairs v.name) (variables_of (source_of modules source))

-- a module's name, and then the variables that it declares
abbrev pub module_declarations : List Module → Module → List Declaration
module_declarations modules m = (kind.Module, title_of m) ∷ values (declared_by modules m)

-- all declarations in text order
abbrev pub declarations_of : ModelText → List Declaration
declarations_of m = values (map (λ c. c.name) m.consts)
    ++ (values (map (λ v. v.name) m.globals) ++ (values (map (λ f. f.name) m.formulas)
    ++ (flat_map (module_declarations m.modules) m.modules ++ label_declarations (map (λ f. f.name) m.labels))))

-- the labels that are there without a declaration
abbrev pub built_in : List Declaration
built_in = (kind.Label, codes "init") ∷ ((kind.Label, codes "deadlock") ∷ [])

-- whether a declaration stands among these more than once
abbrev pub is_repeated : List Declaration → Declaration → Bool
is_repeated all d = nat_lt 1 (count_by (is_same d) all)

-- the name of the first declaration that another one, or a built-in label, repeats
abbrev pub duplicate_of : ModelText → Option Name
duplicate_of m = option_map (λ d. d.1) (find (is_repeated (built_in ++ declarations_of m)) (declarations_of m))

-- the names of a flat text's values: constants, globals, formulas, and the variables of its modules
abbrev pub flat_values : FlatText → List Name
flat_values flat = map (λ c. c.name) flat.consts ++ (map (λ v. v.name) flat.globals ++ (map (λ f. f.name) flat.formulas
    ++ flat_map (λ m. map (λ v. v.name) (variables_of m)) flat.modules))

-- the values of a flat text have different names, and so have its modules and its labels
pub record AreNamedApart (flat : FlatText) : Type 0 where
  pub values : AreDistinct (flat_values flat)
  pub modules : AreDistinct (map title_of flat.modules)
  pub labels : AreDistinct (map (λ f. f.name) flat.labels)
