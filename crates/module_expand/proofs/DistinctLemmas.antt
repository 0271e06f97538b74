-- Where no declaration is repeated, the names of one kind differ.
use Rattle.std.proofs.Common.{◌≡◌, ℕ, suc, ◌+◌, ◌<◌, ◌≤◌, List, [], ◌∷◌, ◌++◌, Option, Bool, true, false, ◌&&◌, length, map, get_or, count_by, find, bytes_eq, cond, arith, refl, sym, ap, ◌∙◌, subst, nat_lt, append_assoc}
use Rattle.std.specs.Prelude.{None, Some, All}
use mathlib.Core.Logic.{inl, inr}
use Rattle.std.specs.List.{flat_map}
use Rattle.std.specs.Option.{option_map}
use Rattle.std.proofs.lemmas.Bool.{cases_Bool}
use Rattle.std.proofs.lemmas.Grind.{common_steps}
use Rattle.std.proofs.lemmas.List.Elements.{All-nil, All-cons}
use Rattle.std.proofs.lemmas.List.Kept.{AllPairs-cons}
use Rattle.prism_syntax.specs.declared.models.Module.{Module}
use Rattle.prism_syntax.specs.declared.models.ModelText.{ModelText}
use Rattle.prism_names.specs.First.{Name, AreDistinct}
use Rattle.module_expand.specs.declared.declarations.Kind.{Kind}
use Rattle.module_expand.specs.declared.declarations.Kind.TheVariants as kind
use Rattle.module_expand.specs.Duplicates.{Declaration, same_kind, is_same, is_repeated, values, label_declarations, title_of, declared_by, module_declarations, declarations_of, built_in, duplicate_of}
use Rattle.module_expand.proofs.FirstLemmas.{not_none, itself}

false_not_true : false ≡ true → ⊥
false_not_true h = cc

-- no declaration stands again behind itself
abbrev Apart : List Declaration → Type 0
Apart [] = Unit {0}
Apart (d ∷ rest) = (count_by (is_same d) rest ≡ 0) × Apart rest

-- the names of one kind
abbrev pub names_as : Kind → List Declaration → List Name
names_as k [] = []
names_as k (d ∷ rest) = cond (same_kind d.0 k) (d.1 ∷ names_as k rest) (names_as k rest)

kind_itself : (k : Kind) → same_kind k k ≡ true
kind_itself kind.Value = refl
kind_itself kind.Module = refl
kind_itself kind.Label = refl

same_itself : (d : Declaration) → is_same d d ≡ true
same_itself d = (λ i. kind_itself d.0 i && itself d.1 i)

count_split : {X : Type 0} (test : X → Bool) (front rest : List X) (x : X)
    → count_by test (front ++ (x ∷ rest)) ≡ count_by test front + (cond (test x) 1 0 + count_by test rest)
count_split test front rest x = grind (arith, common_steps)

few : (n : ℕ) → nat_lt 1 n ≡ false → n ≤ 1
few n h = grind (arith, h)

-- where none is found to be repeated none is
apart_of : (front rest all : List Declaration) → all ≡ front ++ rest → find (is_repeated all) rest ≡ None → Apart rest
apart_of front [] all whole none = tt
apart_of front (d ∷ rest) all whole none = elim (cases_Bool (is_repeated all d)) [
  | inl repeated ↦ absurd (not_none d (sym (ap (λ b. cond b (Some d) (find (is_repeated all) rest)) repeated) ∙ none))
  | inr single ↦
      let once : count_by (is_same d) all ≤ 1 = few (count_by (is_same d) all) single in
      let split : count_by (is_same d) all ≡ count_by (is_same d) front + (1 + count_by (is_same d) rest) =
      ap (count_by (is_same d)) whole ∙ (count_split (is_same d) front rest d
      ∙ ap (λ b. count_by (is_same d) front + (cond b 1 0 + count_by (is_same d) rest)) (same_itself d)) in (
        omega (arith, once, split),
        apart_of (front ++ (d ∷ [])) rest all (whole ∙ sym (append_assoc front (d ∷ []) rest))
            (sym (ap (λ b. cond b (Some d) (find (is_repeated all) rest)) single) ∙ none),
      )
]

cons_more : {X : Type 0} (test : X → Bool) (rest : List X) (x : X) → count_by test (x ∷ rest)
    ≡ cond (test x) 1 0 + count_by test rest
cons_more test rest x = grind (arith, common_steps)

-- a name that isn't counted differs from each
none_equal : (k : Kind) (n : Name) (rest : List Declaration) → count_by (is_same (k, n)) rest ≡ 0
    → All (λ other. ¬ (n ≡ other)) (names_as k rest)
none_equal k n [] none = All-nil (λ other. ¬ (n ≡ other))
none_equal k n (d ∷ rest) none = elim (cases_Bool (same_kind d.0 k)) [
  | inl same ↦ subst (All (λ other. ¬ (n ≡ other))) (sym (ap (λ b. cond b (d.1 ∷ names_as k rest) (names_as k rest))
      same))
      (All-cons (λ other. ¬ (n ≡ other)) d.1 (names_as k rest) (λ equal.
      let here : is_same (k, n) d ≡ true = (λ i. same i && (ap (bytes_eq d.1) equal ∙ itself d.1) i) in
      let counted : count_by (is_same (k, n)) (d ∷ rest) ≡ 1 + count_by (is_same (k, n)) rest =
      cons_more (is_same (k, n)) rest d ∙ ap (λ b. cond b 1 0 + count_by (is_same (k, n)) rest) here in
      omega (arith, none, counted)) (none_equal k n rest fewer))
  | inr other ↦ subst (All (λ other. ¬ (n ≡ other))) (sym (ap (λ b. cond b (d.1 ∷ names_as k rest) (names_as k rest))
      other)) (none_equal k n rest fewer)
]
  where
    fewer : count_by (is_same (k, n)) rest ≡ 0
    fewer = omega (arith, none, cons_more (is_same (k, n)) rest d)

distinct_as : (k : Kind) (ds : List Declaration) → Apart ds → AreDistinct (names_as k ds)
distinct_as k [] apart = λ i j d lt below. absurd (omega (arith, below))
distinct_as k (d ∷ rest) apart = elim (cases_Bool (same_kind d.0 k)) [
  | inl same ↦ subst AreDistinct (sym (ap (λ b. cond b (d.1 ∷ names_as k rest) (names_as k rest)) same))
      (AllPairs-cons (λ a b. ¬ (a ≡ b)) d.1 (names_as k rest)
      (none_equal k d.1 rest (ap (λ j. count_by (is_same (j, d.1)) rest) (sym (kind_is d.0 k same)) ∙ apart.0))
      (distinct_as k rest apart.1))
  | inr other ↦ subst AreDistinct (sym (ap (λ b. cond b (d.1 ∷ names_as k rest) (names_as k rest)) other))
      (distinct_as k rest apart.1)
]
  where
    kind_is : (a b : Kind) → same_kind a b ≡ true → a ≡ b
    kind_is kind.Value kind.Value h = refl
    kind_is kind.Value kind.Module h = absurd (false_not_true h)
    kind_is kind.Value kind.Label h = absurd (false_not_true h)
    kind_is kind.Module kind.Value h = absurd (false_not_true h)
    kind_is kind.Module kind.Module h = refl
    kind_is kind.Module kind.Label h = absurd (false_not_true h)
    kind_is kind.Label kind.Value h = absurd (false_not_true h)
    kind_is kind.Label kind.Module h = absurd (false_not_true h)
    kind_is kind.Label kind.Label h = refl

names_append : (k : Kind) (xs ys : List Declaration) → names_as k (xs ++ ys) ≡ names_as k xs ++ names_as k ys
names_append k [] ys = refl
names_append k (d ∷ xs) ys = elim (cases_Bool (same_kind d.0 k)) [
  | inl same ↦ ap (λ b. cond b (d.1 ∷ names_as k (xs ++ ys)) (names_as k (xs ++ ys))) same
      ∙ (ap (λ z. d.1 ∷ z) (names_append k xs ys) ∙ sym (ap (λ b. cond b (d.1 ∷ names_as k xs) (names_as k xs)
      ++ names_as k ys) same))
  | inr other ↦ ap (λ b. cond b (d.1 ∷ names_as k (xs ++ ys)) (names_as k (xs ++ ys))) other
      ∙ (names_append k xs ys ∙ sym (ap (λ b. cond b (d.1 ∷ names_as k xs) (names_as k xs) ++ names_as k ys) other))
]

values_as : (ns : List Name) → names_as kind.Value (values ns) ≡ ns
values_as [] = refl
values_as (n ∷ ns) = ap (λ z. n ∷ z) (values_as ns)

values_not_modules : (ns : List Name) → names_as kind.Module (values ns) ≡ []
values_not_modules [] = refl
values_not_modules (n ∷ ns) = values_not_modules ns

values_not_labels : (ns : List Name) → names_as kind.Label (values ns) ≡ []
values_not_labels [] = refl
values_not_labels (n ∷ ns) = values_not_labels ns

labels_as : (ns : List Name) → names_as kind.Label (label_declarations ns) ≡ ns
labels_as [] = refl
labels_as (n ∷ ns) = ap (λ z. n ∷ z) (labels_as ns)

labels_not_values : (ns : List Name) → names_as kind.Value (label_declarations ns) ≡ []
labels_not_values [] = refl
labels_not_values (n ∷ ns) = labels_not_values ns

labels_not_modules : (ns : List Name) → names_as kind.Module (label_declarations ns) ≡ []
labels_not_modules [] = refl
labels_not_modules (n ∷ ns) = labels_not_modules ns

modules_values : (modules ms : List Module) → names_as kind.Value (flat_map (module_declarations modules) ms)
    ≡ flat_map (declared_by modules) ms
modules_values modules [] = refl
modules_values modules (m ∷ ms) = names_append kind.Value (values (declared_by modules m))
    (flat_map (module_declarations modules) ms)
    ∙ (λ i. values_as (declared_by modules m) i ++ modules_values modules ms i)

modules_titles : (modules ms : List Module) → names_as kind.Module (flat_map (module_declarations modules) ms)
    ≡ map title_of ms
modules_titles modules [] = refl
modules_titles modules (m ∷ ms) = ap (λ z. title_of m ∷ z) (names_append kind.Module (values (declared_by modules m))
    (flat_map (module_declarations modules) ms)
    ∙ (λ i. values_not_modules (declared_by modules m) i ++ modules_titles modules ms i))

modules_not_labels : (modules ms : List Module) → names_as kind.Label (flat_map (module_declarations modules) ms) ≡ []
modules_not_labels modules [] = refl
modules_not_labels modules (m ∷ ms) = names_append kind.Label (values (declared_by modules m))
    (flat_map (module_declarations modules) ms)
    ∙ (λ i. values_not_labels (declared_by modules m) i ++ modules_not_labels modules ms i)

whole : (ns : List Name) → ns ++ [] ≡ ns
whole ns = grind (arith, common_steps)

five : (k : Kind) (a b c d e : List Declaration) → names_as k (a ++ (b ++ (c ++ (d ++ e))))
    ≡ names_as k a ++ (names_as k b ++ (names_as k c ++ (names_as k d ++ names_as k e)))
five k a b c d e = names_append k a (b ++ (c ++ (d ++ e))) ∙ ap (λ z. names_as k a ++ z)
    (names_append k b (c ++ (d ++ e))
    ∙ ap (λ z. names_as k b ++ z) (names_append k c (d ++ e) ∙ ap (λ z. names_as k c ++ z) (names_append k d e)))

-- the names of the values that a model declares
abbrev pub model_values : ModelText → List Name
model_values m = map (λ c. c.name) m.consts ++ (map (λ v. v.name) m.globals ++ (map (λ f. f.name) m.formulas
    ++ flat_map (declared_by m.modules) m.modules))

apart_none : (m : ModelText) → duplicate_of m ≡ None → Apart (declarations_of m)
apart_none m none = apart_of built_in (declarations_of m) (built_in ++ declarations_of m) refl
    (not_told (find (is_repeated (built_in ++ declarations_of m)) (declarations_of m)) none)
  where
    not_told : (o : Option Declaration) → option_map (λ d. d.1) o ≡ None → o ≡ None
    not_told None h = refl
    not_told (Some d) h = absurd (not_none d.1 h)

pub values_apart : (m : ModelText) → duplicate_of m ≡ None → AreDistinct (model_values m)
values_apart m none = subst AreDistinct
    (five kind.Value (values (map (λ c. c.name) m.consts)) (values (map (λ v. v.name) m.globals))
    (values (map (λ f. f.name) m.formulas))
    (flat_map (module_declarations m.modules) m.modules) (label_declarations (map (λ f. f.name) m.labels))
    ∙ ((λ i. values_as (map (λ c. c.name) m.consts) i ++ (values_as (map (λ v. v.name) m.globals) i
    ++ (values_as (map (λ f. f.name) m.formulas) i
    ++ (modules_values m.modules m.modules i ++ labels_not_values (map (λ f. f.name) m.labels) i))))
    ∙ (λ i. map (λ c. c.name) m.consts ++ (map (λ v. v.name) m.globals ++ (map (λ f. f.name) m.formulas
    ++ whole (flat_map (declared_by m.modules) m.modules) i)))))
    (distinct_as kind.Value (declarations_of m) (apart_none m none))

pub titles_apart : (m : ModelText) → duplicate_of m ≡ None → AreDistinct (map title_of m.modules)
titles_apart m none = subst AreDistinct
    (five kind.Module (values (map (λ c. c.name) m.consts)) (values (map (λ v. v.name) m.globals))
    (values (map (λ f. f.name) m.formulas))
    (flat_map (module_declarations m.modules) m.modules) (label_declarations (map (λ f. f.name) m.labels))
    ∙ ((λ i. values_not_modules (map (λ c. c.name) m.consts) i ++ (values_not_modules (map (λ v. v.name) m.globals) i
    ++ (values_not_modules (map (λ f. f.name) m.formulas) i
    ++ (modules_titles m.modules m.modules i ++ labels_not_modules (map (λ f. f.name) m.labels) i))))
    ∙ whole (map title_of m.modules)))
    (distinct_as kind.Module (declarations_of m) (apart_none m none))

pub labels_apart : (m : ModelText) → duplicate_of m ≡ None → AreDistinct (map (λ f. f.name) m.labels)
labels_apart m none = subst AreDistinct
    (five kind.Label (values (map (λ c. c.name) m.consts)) (values (map (λ v. v.name) m.globals))
    (values (map (λ f. f.name) m.formulas))
    (flat_map (module_declarations m.modules) m.modules) (label_declarations (map (λ f. f.name) m.labels))
    ∙ (λ i. values_not_labels (map (λ c. c.name) m.consts) i ++ (values_not_labels (map (λ v. v.name) m.globals) i
    ++ (values_not_labels (map (λ f. f.name) m.formulas) i
    ++ (modules_not_labels m.modules m.modules i ++ labels_as (map (λ f. f.name) m.labels) i)))))
    (distinct_as kind.Label (declarations_of m) (apart_none m none))

distinct_right : (xs ys : List Name) → AreDistinct (xs ++ ys) → AreDistinct ys
distinct_right [] ys apart = apart
distinct_right (x ∷ xs) ys apart = distinct_right xs ys (λ i j d lt below. apart (suc i) (suc j) d
    (omega (arith, lt)) (omega (arith, below)))

distinct_left : (xs ys : List Name) → AreDistinct (xs ++ ys) → AreDistinct xs
distinct_left xs ys apart i j d lt below same =
    apart i j d lt (longer below) (at_front i (omega (arith, lt, below)) ∙ (same ∙ sym (at_front j below)))
  where
    longer : j < length xs → j < length (xs ++ ys)
    longer h = grind (arith, common_steps, h)

    at_front : (k : ℕ) → k < length xs → get_or (xs ++ ys) k d ≡ get_or xs k d
    at_front k h = grind (arith, common_steps, h)

pub formulas_apart : (m : ModelText) → duplicate_of m ≡ None → AreDistinct (map (λ f. f.name) m.formulas)
formulas_apart m none = distinct_left (map (λ f. f.name) m.formulas) (flat_map (declared_by m.modules) m.modules)
    (distinct_right (map (λ v. v.name) m.globals) _ (distinct_right (map (λ c. c.name) m.consts) _
    (values_apart m none)))
