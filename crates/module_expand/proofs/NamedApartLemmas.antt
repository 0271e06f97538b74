-- The names of a flat text are those that the model declares.
use Rattle.std.proofs.Common.{◌≡◌, ℕ, zero, suc, List, [], ◌∷◌, ◌++◌, Option, map, sym, ap, ◌∙◌, subst, unwrap_or, refl}
use Rattle.std.specs.Prelude.{None, Some, position}
use mathlib.Core.Logic.{inl, inr}
use Rattle.std.specs.Option.{option_and_then}
use Rattle.std.specs.List.{slice_get, filter_map, flat_map, cons_option}
use Rattle.prism_syntax.specs.declared.expressions.Expr.{Expr}
use Rattle.prism_syntax.specs.declared.models.Named.{Named}
use Rattle.prism_syntax.specs.declared.models.Variable.{Variable}
use Rattle.prism_syntax.specs.declared.models.Module.{Module}
use Rattle.prism_syntax.specs.declared.models.Module.TheVariants.{Written, Renamed}
use Rattle.prism_syntax.specs.declared.models.ModelText.{ModelText}
use Rattle.prism_syntax.specs.Replaced.{replaced}
use Rattle.prism_names.specs.First.{Name, AreDistinct}
use Rattle.module_expand.specs.Expanded.{stands_for, with_body, AreExpanded}
use Rattle.module_expand.specs.Renamed.{no_names, right_of, as_tree, copied_variable, variables_of}
use Rattle.module_expand.specs.Flat.{is_written_as, source_of, flat_const, flat_module, flat_of}
use Rattle.module_expand.specs.Duplicates.{title_of, declared_by, duplicate_of, AreNamedApart}
use Rattle.module_expand.specs.Refusals.{LeavesOutNone}
use Rattle.module_expand.proofs.FirstLemmas.{not_none, some_same, some_or_none, find-at_position, find-no_position}
use Rattle.module_expand.proofs.DistinctLemmas.{values_apart, titles_apart, labels_apart}

pub same_names : {X : Type 0} (name : X → Name) (change : X → X) → ((x : X) → name (change x) ≡ name x) → (xs : List X)
    → map name (map change xs) ≡ map name xs
same_names name change same [] = refl
same_names name change same (x ∷ xs) = λ i. same x i ∷ same_names name change same xs i

-- where each has an answer none is passed over
all_told : {X Y : Type 0} (tell : X → Option Y) (other : X → Y) (xs : List X) → ((j : ℕ) (x : X) → slice_get xs j
    ≡ Some x → tell x ≡ None → ⊥)
    → map (λ x. unwrap_or (tell x) (other x)) xs ≡ filter_map tell xs
all_told tell other [] told = refl
all_told tell other (x ∷ xs) told = elim (some_or_none (tell x)) [
  | inl s ↦ (λ i. unwrap_or (s.1 i) (other x) ∷ all_told tell other xs (λ j y at. told (suc j) y at) i)
      ∙ sym (ap (λ o. cons_option o (filter_map tell xs)) s.1)
  | inr none ↦ absurd (told zero x refl none)
]

twice_named : (names : Name → Option Name) (by trees : Name → Option Expr) (vs : List Variable)
    → map (λ v. v.name) (map (copied_variable names trees) (map (copied_variable no_names by) vs))
    ≡ map (λ v. unwrap_or (names v.name) v.name) vs
twice_named names by trees [] = refl
twice_named names by trees (v ∷ vs) = ap (λ z. unwrap_or (names v.name) v.name ∷ z) (twice_named names by trees vs)

name_of_place : (vs : List Variable) (j : ℕ) (v : Variable) → slice_get vs j ≡ Some v
    → slice_get (map (λ v. v.name) vs) j ≡ Some v.name
name_of_place [] j v at = absurd (not_none v (sym at))
name_of_place (w ∷ vs) zero v at = ap (λ w. Some w.name) (some_same w v at)
name_of_place (w ∷ vs) (suc j) v at = name_of_place vs j v at

-- a module of the flat text declares what the model's module declares
pub module_names : (modules : List Module) (by : Name → Option Expr) → LeavesOutNone modules → (k : ℕ) (d : Module)
    → slice_get modules k ≡ Some d
    → map (λ v. v.name) (variables_of (flat_module modules by d)) ≡ declared_by modules d
module_names modules by left k (Written title vars commands) at =
    same_names (λ v. v.name) (copied_variable no_names by) (λ v. refl) vars
module_names modules by left k (Renamed title source pairs) at =
    twice_named (right_of pairs) by (as_tree (right_of pairs)) (variables_of (source_of modules source))
    ∙ all_told (λ v. right_of pairs v.name) (λ v. v.name) (variables_of (source_of modules source)) (λ j v at_j none.
    elim (some_or_none (position (is_written_as source) modules)) [
      | inl s ↦ (let source_is = find-at_position (is_written_as source) modules s.0 s.1 in
          elim (some_or_none (slice_get modules s.0)) [
            | inl m ↦
                let same : source_of modules source ≡ m.0 = ap (λ o. unwrap_or o (Written source [] [])) (source_is
                ∙ m.1) in
                left s.0 j v.name (
                  k,
                  (
                    Renamed title source pairs,
                    at,
                    (
                      s.1,
                      ap (option_and_then (λ m. slice_get (map (λ v. v.name) (variables_of m)) j)) m.1
                          ∙ name_of_place (variables_of m.0) j v (subst (λ m. slice_get (variables_of m) j ≡ Some v)
                          same at_j),
                      none,
                    ),
                  ),
                )
            | inr no_module ↦
                let empty : source_of modules source ≡ Written source [] [] =
                ap (λ o. unwrap_or o (Written source [] [])) (source_is ∙ no_module) in
                not_none v (sym (subst (λ m. slice_get (variables_of m) j ≡ Some v) empty at_j))
          ])
      | inr no_place ↦
          let empty : source_of modules source ≡ Written source [] [] = ap (λ o. unwrap_or o (Written source [] []))
          (find-no_position (is_written_as source) modules no_place) in
          not_none v (sym (subst (λ m. slice_get (variables_of m) j ≡ Some v) empty at_j))
    ])

all_names : (g h : Module → List Name) (change : Module → Module) (ms : List Module)
    → ((k : ℕ) (d : Module) → slice_get ms k ≡ Some d → g (change d) ≡ h d)
    → flat_map g (map change ms) ≡ flat_map h ms
all_names g h change [] same = refl
all_names g h change (m ∷ ms) same = λ i. same zero m refl i ++ all_names g h change ms (λ k d at. same (suc k) d at) i

pub title_stays : (modules : List Module) (by : Name → Option Expr) (m : Module) → title_of (flat_module modules by m)
    ≡ title_of m
title_stays modules by (Written title vars commands) = refl
title_stays modules by (Renamed title source pairs) = refl

pub named_apart : (m : ModelText) (trees : List Named) → duplicate_of m ≡ None → LeavesOutNone m.modules
    → AreExpanded m.formulas trees → AreNamedApart (flat_of m trees)
named_apart m trees none left expanded = record {
  values = subst AreDistinct (sym (λ i. consts i ++ (globals i ++ (formulas i ++ variables i)))) (values_apart m none);
  modules = subst AreDistinct (sym (same_names title_of (flat_module m.modules by) (title_stays m.modules by)
      m.modules)) (titles_apart m none);
  labels = subst AreDistinct (sym (same_names (λ f. f.name) (with_body (replaced by)) (λ f. refl) m.labels))
      (labels_apart m none);
}
  where
    by : Name → Option Expr
    by = stands_for trees

    consts : map (λ c. c.name) (map (flat_const by) m.consts) ≡ map (λ c. c.name) m.consts
    consts = same_names (λ c. c.name) (flat_const by) (λ c. refl) m.consts

    globals : map (λ v. v.name) (map (copied_variable no_names by) m.globals) ≡ map (λ v. v.name) m.globals
    globals = same_names (λ v. v.name) (copied_variable no_names by) (λ v. refl) m.globals

    formulas : map (λ f. f.name) trees ≡ map (λ f. f.name) m.formulas
    formulas = ap (map (λ f. f.name)) expanded ∙ same_names (λ f. f.name) (with_body (replaced by)) (λ f. refl)
        m.formulas

    variables : flat_map (λ m. map (λ v. v.name) (variables_of m)) (map (flat_module m.modules by) m.modules)
        ≡ flat_map (declared_by m.modules) m.modules
    variables = all_names (λ m. map (λ v. v.name) (variables_of m)) (declared_by m.modules)
        (flat_module m.modules by) m.modules (module_names m.modules by left)
