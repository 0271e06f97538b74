-- Declarations that are appended in groups.
use Rattle.std.proofs.Common.{◌≡◌, List, [], ◌∷◌, ◌++◌, Option, map, find, unwrap_or, refl, sym, ap, ◌∙◌, append_assoc}
use Rattle.std.specs.Prelude.{None, Some}
use Rattle.std.specs.Option.{option_map}
use Rattle.std.specs.List.{filter_map, flat_map, cons_option}
use Rattle.std.proofs.lemmas.Grind.{flat_map-append}
use Rattle.std.proofs.lemmas.List.{append-nil}
use Rattle.prism_syntax.specs.declared.models.Variable.{Variable}
use Rattle.prism_syntax.specs.declared.models.Module.{Module}
use Rattle.prism_syntax.specs.declared.models.Module.TheVariants.{Written, Renamed}
use Rattle.prism_names.specs.First.{Name}
use Rattle.module_expand.specs.declared.declarations.Kind.TheVariants as kind
use Rattle.module_expand.specs.declared.declarations.Group.{Group}
use Rattle.module_expand.specs.Renamed.{right_of, variables_of, variable_names}
use Rattle.module_expand.specs.Flat.{is_written_as, source_of}
use Rattle.module_expand.specs.Duplicates.{Declaration, values, module_declarations}
use Rattle.module_expand.specs.Groups.{stated}
use Rattle.module_expand.proofs.FirstLemmas.{not_none, some_same}

-- one group more
pub stated_more : (all new : List Group) (g : Group) → new ≡ all ++ (g ∷ []) → flat_map stated new
    ≡ flat_map stated all ++ stated g
stated_more all new g is = ap (flat_map stated) is ∙ (flat_map-append stated all (g ∷ [])
    ∙ ap (λ z. flat_map stated all ++ z) (append-nil (stated g)))

-- a declaration and then others
pub stated_after : (old between new : List Declaration) (d : Declaration) (tail : List Declaration)
    → between ≡ old ++ (d ∷ []) → new ≡ between ++ tail → new ≡ old ++ (d ∷ tail)
stated_after old between new d tail one more = more ∙ (ap (λ z. z ++ tail) one ∙ append_assoc old (d ∷ []) tail)

-- what names of variables give
pub of_names : (h : Name → Option Name) (vars : List Variable) → filter_map h (map (λ v. v.name) vars)
    ≡ filter_map (λ v. h v.name) vars
of_names h [] = refl
of_names h (v ∷ vars) = ap (λ ns. cons_option (h v.name) ns) (of_names h vars)

-- the declarations of a renamed module, by the variables of its source
pub of_source : (modules : List Module) (item : Module) (title source : Name) (pairs used : List (Name × Name))
    (vars : List Name) → item ≡ Renamed title source pairs → used ≡ pairs
    → Some vars ≡ option_map variable_names (find (is_written_as source) modules)
    → (kind.Module, title) ∷ values (filter_map (right_of used) vars) ≡ module_declarations modules item
of_source modules item title source pairs used vars is same found =
    ap (λ ps. (kind.Module, title) ∷ values (filter_map (right_of ps) vars)) same
    ∙ (ap (λ ns. (kind.Module, title) ∷ values (filter_map (right_of pairs) ns))
    (its (find (is_written_as source) modules) found)
    ∙ (ap (λ ns. (kind.Module, title) ∷ values ns)
    (of_names (right_of pairs) (variables_of (source_of modules source))) ∙ sym (ap (module_declarations modules) is)))
  where
    its : (o : Option Module) → Some vars ≡ option_map variable_names o
        → vars ≡ variable_names (unwrap_or o (Written source [] []))
    its None h = absurd (not_none vars h)
    its (Some m) h = some_same vars (variable_names m) h

pub of_no_source : (modules : List Module) (item : Module) (title source : Name) (pairs : List (Name × Name))
    → item ≡ Renamed title source pairs → None ≡ option_map variable_names (find (is_written_as source) modules)
    → (kind.Module, title) ∷ [] ≡ module_declarations modules item
of_no_source modules item title source pairs is none =
    its (find (is_written_as source) modules) none ∙ sym (ap (module_declarations modules) is)
  where
    its : (o : Option Module) → None ≡ option_map variable_names o → (kind.Module, title) ∷ []
        ≡ (kind.Module, title) ∷ values (filter_map (λ v. right_of pairs v.name)
        (variables_of (unwrap_or o (Written source [] []))))
    its None h = refl
    its (Some m) h = absurd (not_none (variable_names m) (sym h))
