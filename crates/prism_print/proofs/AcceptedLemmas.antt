-- Expansion does not refuse a flat text that comes from a model which it does not refuse.
use Rattle.std.proofs.Common.{◌≡◌, ℕ, zero, suc, List, [], ◌∷◌, ◌++◌, Option, length, map, get_or, arith, refl, sym, ap, ◌∙◌, subst, Contains}
use Rattle.std.specs.Prelude.{None, Some, All, Ok}
use mathlib.Core.Logic.{inl, inr}
use Rattle.std.specs.Option.{option_map, option_or}
use Rattle.std.specs.List.{slice_get, filter_map, flat_map, cons_option}
use Rattle.std.specs.Prelude.{find}
use Rattle.std.proofs.lemmas.Bool.{cases_lt}
use Rattle.std.proofs.lemmas.List.{get_or_past}
use Rattle.std.proofs.lemmas.List.Elements.{All-head, All-tail, All-map}
use Rattle.prism_syntax.specs.declared.expressions.Expr.{Expr}
use Rattle.prism_syntax.specs.declared.expressions.Expr.TheVariants as e
use Rattle.prism_syntax.specs.declared.models.Named.{Named}
use Rattle.prism_syntax.specs.declared.models.Module.{Module}
use Rattle.prism_syntax.specs.declared.models.Module.TheVariants.{Written, Renamed}
use Rattle.prism_syntax.specs.declared.models.ModelText.{ModelText}
use Rattle.prism_syntax.specs.declared.models.FlatText.{FlatText}
use Rattle.prism_syntax.specs.Replaced.{replaced}
use Rattle.prism_names.specs.First.{Name, first_some}
use Rattle.prism_names.specs.Names.{names_of}
use Rattle.name_graph.specs.Graph.{Graph, Reaches, uses, through}
use Rattle.module_expand.specs.declared.fault.ExpandFault.{ExpandFault}
use Rattle.module_expand.specs.declared.fault.ExpandFault.TheVariants as fault
use Rattle.module_expand.specs.declared.declarations.Kind.TheVariants as kind
use Rattle.module_expand.specs.Expanded.{stands_for, with_body}
use Rattle.module_expand.specs.Renamed.{no_names, copied_variable, variables_of}
use Rattle.module_expand.specs.Flat.{flat_const, flat_module, IsFlat}
use Rattle.module_expand.specs.Duplicates.{Declaration, values, label_declarations, declared_by, module_declarations, declarations_of, built_in, is_repeated}
use Rattle.module_expand.specs.Listed.{IsTooLarge}
use Rattle.module_expand.specs.Refusals.{TellsSize, IsRefused, uses_of, place_of, missing_source, LeavesOut, renamed_twice, renamed_to_formula}
use Rattle.module_expand.proofs.FirstLemmas.{some_or_none, some_same, not_none}
use Rattle.module_expand.proofs.OrderLemmas.{placed}
use Rattle.module_expand.proofs.ExpandedLemmas.{one_flat}
use Rattle.module_expand.proofs.NamedApartLemmas.{same_names, module_names, title_stays}
use Rattle.module_expand.proofs.DecideLemmas.{Passed, PassedModules, modules_decided, none_refused}
use Rattle.prism_print.specs.Reading.{as_model}
use Rattle.prism_print.proofs.RefusedLemmas.{IsAccepted, is_accepted}
use Rattle.prism_print.proofs.AgainLemmas.{each_passes, clean, flat_again}

-- ---- no formula of a flat text names another

unplaced : (trees : List Named) (n : Name) → stands_for trees n ≡ None → place_of trees n ≡ None
unplaced trees n none = elim (some_or_none (place_of trees n)) [
  | inl s ↦ (let found = placed trees n s.0 s.1 in
      absurd (not_none (e.Paren found.0.body) (sym (ap (option_map (λ f. e.Paren f.body)) found.2) ∙ none)))
  | inr no_place ↦ no_place
]

none_kept : (place : Name → Option ℕ) (ns : List Name) → All (λ n. place n ≡ None) ns → filter_map place ns ≡ []
none_kept place [] all = refl
none_kept place (n ∷ ns) all = ap (λ o. cons_option o (filter_map place ns)) (All-head (λ m. place m ≡ None) n ns all)
    ∙ none_kept place ns (All-tail (λ m. place m ≡ None) n ns all)

used_never : (graph : Graph) → All (λ row. row ≡ []) graph → (i j : ℕ) → Contains (get_or graph i []) j → ⊥
used_never graph empty i j used = elim (cases_lt i (length graph)) [
  | inl below ↦ (let none : length (get_or graph i []) ≡ 0 = ap length (empty i [] below) in omega (arith, used.1, none))
  | inr past ↦ (let none : length (get_or graph i []) ≡ 0 = ap length (get_or_past graph i [] past) in omega (arith, used.1, none))
]

reaches_never : (graph : Graph) → All (λ row. row ≡ []) graph → (i j : ℕ) → Reaches graph i j → ⊥
reaches_never graph empty i j (uses {i = a} {j = b} used) = used_never graph empty i j used
reaches_never graph empty i j (through {i = a} {j = b} {k = c} used rest) = used_never graph empty i b used

-- ---- no module of a flat text is renamed

none_among : {X Y : Type 0} (tell : X → Option Y) (change : X → X) → ((x : X) → tell (change x) ≡ None) → (xs : List X) → first_some tell (map change xs) ≡ None
none_among tell change none [] = refl
none_among tell change none (x ∷ xs) = ap (λ o. option_or o (first_some tell (map change xs))) (none x) ∙ none_among tell change none xs

-- what stands in a list of changed items is a changed item
changed_item : {X : Type 0} (change : X → X) (xs : List X) (k : ℕ) (y : X) → slice_get (map change xs) k ≡ Some y → (x : X) × (change x ≡ y)
changed_item change [] k y at = absurd (not_none y (sym at))
changed_item change (x ∷ xs) zero y at = (x, some_same (change x) y at)
changed_item change (x ∷ xs) (suc k) y at = changed_item change xs k y at

module _ (modules others : List Module) (by : Name → Option Expr) where
  no_source : (d : Module) → missing_source others (flat_module modules by d) ≡ None
  no_source (Written title vars commands) = refl
  no_source (Renamed title source pairs) = refl

  not_twice : (d : Module) → renamed_twice (flat_module modules by d) ≡ None
  not_twice (Written title vars commands) = refl
  not_twice (Renamed title source pairs) = refl

  not_renamed : (place : Name → Option ℕ) (d : Module) → renamed_to_formula place (flat_module modules by d) ≡ None
  not_renamed place (Written title vars commands) = refl
  not_renamed place (Renamed title source pairs) = refl

  leaves_nothing : (d : Module) (i j : ℕ) (name : Name) → LeavesOut others (flat_module modules by d) i j name → ⊥
  leaves_nothing (Written title vars commands) i j name left = left
  leaves_nothing (Renamed title source pairs) i j name left = left

  own_names : (d : Module) → declared_by others (flat_module modules by d) ≡ map (λ v. v.name) (variables_of (flat_module modules by d))
  own_names (Written title vars commands) = refl
  own_names (Renamed title source pairs) = refl

all_declared : (g h : Module → List Declaration) (change : Module → Module) (ms : List Module) → ((k : ℕ) (d : Module) → slice_get ms k ≡ Some d → g (change d) ≡ h d)
    → flat_map g (map change ms) ≡ flat_map h ms
all_declared g h change [] same = refl
all_declared g h change (d ∷ ms) same = λ i. same zero d refl i ++ all_declared g h change ms (λ k d at. same (suc k) d at) i

-- the flat text of a model that is not refused is not refused
pub flat_accepted : (m : ModelText) (flat : FlatText) → IsFlat m flat → ((f : ExpandFault) → ¬ IsRefused m f) → (f : ExpandFault) → ¬ IsRefused (as_model flat) f
flat_accepted m flat is accepted = none_refused (as_model flat) passed (modules_decided {T = Unit {0}} (as_model flat) passed_modules (Ok tt) size)
  where
    by : Name → Option Expr
    by = stands_for flat.formulas

    known : IsAccepted m
    known = is_accepted m accepted

    made : flat.modules ≡ map (flat_module m.modules by) m.modules
    made = ap (λ f. f.modules) is.rest

    -- the flat text declares what the model declares
    consts : map (λ c. c.name) flat.consts ≡ map (λ c. c.name) m.consts
    consts = ap (λ f. map (λ c. c.name) f.consts) is.rest ∙ same_names (λ c. c.name) (flat_const by) (λ c. refl) m.consts

    globals : map (λ v. v.name) flat.globals ≡ map (λ v. v.name) m.globals
    globals = ap (λ f. map (λ v. v.name) f.globals) is.rest ∙ same_names (λ v. v.name) (copied_variable no_names by) (λ v. refl) m.globals

    formulas : map (λ f. f.name) flat.formulas ≡ map (λ f. f.name) m.formulas
    formulas = ap (map (λ f. f.name)) is.formulas ∙ same_names (λ f. f.name) (with_body (replaced by)) (λ f. refl) m.formulas

    labels : map (λ f. f.name) flat.labels ≡ map (λ f. f.name) m.labels
    labels = ap (λ f. map (λ g. g.name) f.labels) is.rest ∙ same_names (λ f. f.name) (with_body (replaced by)) (λ f. refl) m.labels

    modules : flat_map (module_declarations flat.modules) flat.modules ≡ flat_map (module_declarations m.modules) m.modules
    modules = ap (flat_map (module_declarations flat.modules)) made
        ∙ all_declared (module_declarations flat.modules) (module_declarations m.modules) (flat_module m.modules by) m.modules (λ k d at.
        let title = title_stays m.modules by d in
        let names = own_names m.modules flat.modules by d ∙ module_names m.modules by known.left k d at in
        λ i. (kind.Module, title i) ∷ values (names i))

    declared : declarations_of (as_model flat) ≡ declarations_of m
    declared = λ i. values (consts i) ++ (values (globals i) ++ (values (formulas i) ++ (modules i ++ label_declarations (labels i))))

    rows : All (λ row. row ≡ []) (uses_of flat.formulas)
    rows = All-map (λ row. row ≡ []) (λ (f : Named). filter_map (place_of flat.formulas) (names_of f.body)) flat.formulas
        (subst (All Unused) (sym is.formulas) (All-map Unused (with_body (replaced by)) m.formulas (each_passes (λ f. Unused (with_body (replaced by) f)) unused m.formulas)))
      where
        Unused : Named → Type 0
        Unused f = filter_map (place_of flat.formulas) (names_of f.body) ≡ []

        unused : (f : Named) → Unused (with_body (replaced by) f)
        unused f = none_kept (place_of flat.formulas) (names_of (replaced by f.body)) (λ k d lt. unplaced flat.formulas _ (clean m.formulas flat.formulas is.formulas f.body k d lt))

    passed : Passed (as_model flat)
    passed = record {
      duplicate = ap (λ all. option_map (λ d. d.1) (find (is_repeated (built_in ++ all)) all)) declared ∙ known.duplicate;
      cycle = λ i reaches. reaches_never (uses_of flat.formulas) rows i i reaches;
    }

    passed_modules : PassedModules (as_model flat)
    passed_modules = record {
      source = ap (first_some (missing_source flat.modules)) made ∙ none_among (missing_source flat.modules) (flat_module m.modules by) (no_source m.modules flat.modules by) m.modules;
      left = λ i j name left.
          let item = changed_item (flat_module m.modules by) m.modules left.0 left.1.0 (ap (λ ds. slice_get ds left.0) (sym made) ∙ left.1.1) in
          leaves_nothing m.modules flat.modules by item.0 i j name (subst (λ d. LeavesOut flat.modules d i j name) (sym item.1) left.1.2);
      twice = ap (first_some renamed_twice) made ∙ none_among renamed_twice (flat_module m.modules by) (not_twice m.modules flat.modules by) m.modules;
      formula = ap (first_some (renamed_to_formula (place_of flat.formulas))) made
          ∙ none_among (renamed_to_formula (place_of flat.formulas)) (flat_module m.modules by) (not_renamed m.modules flat.modules by (place_of flat.formulas)) m.modules;
    }

    size : (f : ExpandFault) → ¬ TellsSize (as_model flat) f
    size f large = known.size fault.TooLarge (
      refl,
      (
        flat,
        is,
        subst IsTooLarge
            (one_flat (as_model flat) large.1.0 flat large.1.1 (flat_again m flat is accepted)) large.1.2,
      ),
    )
