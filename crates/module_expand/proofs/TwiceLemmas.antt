-- The first name that was counted more than once.
use Rattle.std.proofs.Common.{◌≡◌, ℕ, ◌+◌, ◌<◌, ◌≤◌, List, [], ◌∷◌, ◌++◌, Option, Bool, true, false, length, get_or, take, drop, find, count_by, is_some, map, nat_lt, unwrap_or, bytes_eq, cond, arith, refl, sym, ap, ◌∙◌, subst, Bor}
use Rattle.std.specs.Prelude.{None, Some}
use mathlib.Core.Logic.{inl, inr}
use Rattle.std.specs.Option.{option_or, option_map, option_copied, option_to_list}
use Rattle.std.specs.List.{filter_map, cons_option, flat_map, All}
use Rattle.std.proofs.lemmas.Bool.{cases_Bool}
use Rattle.std.proofs.lemmas.Grind.{flat_map-append}
use Rattle.std.proofs.lemmas.List.{take_all, take-append-drop}
use Rattle.std.proofs.lemmas.List.Elements.{All-more, All-head, All-tail}
use Rattle.std.proofs.lemmas.List.Folds.{find-append}
use Rattle.prism_syntax.specs.declared.models.Variable.{Variable}
use Rattle.prism_names.specs.First.{Name}
use Rattle.module_expand.specs.Renamed.{right_of}
use Rattle.module_expand.specs.Duplicates.{Declaration, values}
use Rattle.module_expand.specs.Times.{Counts, times, never, is_counted_twice, first_twice}
use Rattle.module_expand.proofs.FirstLemmas.{same_bytes, itself, some_or_none, some_same, not_none}
use Rattle.module_expand.proofs.CountLemmas.{flat_one, count_first}
use Rattle.module_expand.proofs.GroupLemmas.{of_names}

-- the name of the first of these declarations that passes a test
abbrev pub first_where : (Declaration → Bool) → List Declaration → Option Name
first_where test all = option_map (λ d. d.1) (find test all)

first_append : (test : Declaration → Bool) (xs ys : List Declaration)
    → first_where test (xs ++ ys) ≡ option_or (first_where test xs) (first_where test ys)
first_append test xs ys = ap (option_map (λ d. d.1)) (find-append (test) xs ys)
    ∙ both (find (test) xs) (find (test) ys)
  where
    both : (o q : Option Declaration) → option_map (λ d. d.1) (option_or o q)
        ≡ option_or (option_map (λ d. d.1) o) (option_map (λ d. d.1) q)
    both None q = refl
    both (Some x) q = refl

-- none among the items so far, nor in one more
pub none_more : {X : Type 0} (test : Declaration → Bool) (f : X → List Declaration) (xs : List X) (i : ℕ) (x : X) → i < length xs
    → x ≡ get_or xs i x → first_where test (flat_map f (take i xs)) ≡ None → first_where test (f x) ≡ None
    → first_where test (flat_map f (take (i + 1) xs)) ≡ None
none_more test f xs i x lt is far none = ap (first_where test) (flat_one f xs i x lt is)
    ∙ (first_append test (flat_map f (take i xs)) (f x) ∙ (λ j. option_or (far j) (none j)))

-- none among the items so far, but one in the next
pub found_here : {X : Type 0} (test : Declaration → Bool) (f : X → List Declaration) (xs : List X) (i : ℕ) (x : X) (n : Name)
    → i < length xs → x ≡ get_or xs i x → first_where test (flat_map f (take i xs)) ≡ None
    → first_where test (f x) ≡ Some n → first_where test (flat_map f xs) ≡ Some n
found_here test f xs i x n lt is far some =
    ap (first_where test) (ap (flat_map f) (sym (take-append-drop (i + 1) xs))
    ∙ (flat_map-append f (take (i + 1) xs) (drop (i + 1) xs)
    ∙ ap (λ z. z ++ flat_map f (drop (i + 1) xs)) (flat_one f xs i x lt is)))
    ∙ (first_append test (flat_map f (take i xs) ++ f x) (flat_map f (drop (i + 1) xs))
    ∙ ap (λ o. option_or o (first_where test (flat_map f (drop (i + 1) xs))))
    (first_append test (flat_map f (take i xs)) (f x) ∙ (λ j. option_or (far j) (some j))))

pub none_all : {X : Type 0} (test : Declaration → Bool) (f : X → List Declaration) (xs : List X) (i : ℕ) → length xs ≤ i
    → first_where test (flat_map f (take i xs)) ≡ None → first_where test (flat_map f xs) ≡ None
none_all test f xs i le far = ap (λ z. first_where test (flat_map f z)) (sym (take_all i xs le)) ∙ far

-- values of the names that there are, one after another
pub values_each : {X : Type 0} (h : X → Option Name) (xs : List X) → flat_map (λ x. values (option_to_list (h x))) xs
    ≡ values (filter_map h xs)
values_each h [] = refl
values_each h (x ∷ xs) = ap (λ z. values (option_to_list (h x)) ++ z) (values_each h xs)
    ∙ joined (h x) (filter_map h xs)
  where
    joined : (o : Option Name) (ns : List Name) → values (option_to_list o) ++ values ns ≡ values (cons_option o ns)
    joined None ns = refl
    joined (Some n) ns = refl

-- a pair gives no name that was counted more than once, if its left name is among these
abbrev pub GivesNone : Counts → List Name → List (Name × Name) → Name × Name → Type 0
GivesNone counts names pairs p = 0 < count_by (λ z. bytes_eq z p.0) names
    → first_twice counts (values (option_to_list (right_of pairs p.0))) ≡ None

found_of : (Q : Name × Name → Type 0) (test : Name × Name → Bool) (ps : List (Name × Name)) → All Q ps
    → (x : Name × Name) → find test ps ≡ Some x → Q x × (test x ≡ true)
found_of Q test [] all x is = absurd (not_none x (sym is))
found_of Q test (p ∷ ps) all x is = elim (cases_Bool (test p)) [
  | inl agree ↦
      let same : p ≡ x = some_same p x (sym (ap (λ b. cond b (Some p) (find test ps)) agree) ∙ is) in
      (subst Q same (All-head Q p ps all), ap test (sym same) ∙ agree)
  | inr differ ↦ found_of Q test ps (All-tail Q p ps all) x (sym (ap (λ b. cond b (Some p) (find test ps)) differ) ∙ is)
]

counted : (m : Name) (rest : List Name) → 0 < count_by (λ z. bytes_eq z m) (m ∷ rest)
counted m rest = let one = count_first (λ z. bytes_eq z m) m rest
    ∙ ap (λ b. cond b 1 0 + count_by (λ z. bytes_eq z m) rest) (itself m) in omega (arith, one)

counted_later : (m n : Name) (rest : List Name) → 0 < count_by (λ z. bytes_eq z n) rest
    → 0 < count_by (λ z. bytes_eq z n) (m ∷ rest)
counted_later m n rest there = let more = count_first (λ z. bytes_eq z n) m rest in omega (arith, more, there)

-- where no pair gives a name that was counted more than once, no name is given one
module _ (counts : Counts) (names : List Name) (pairs : List (Name × Name)) (all : All (GivesNone counts names pairs) pairs)
  where
    none_given : (m : Name) (rest : List Name)
        → ((n : Name) → 0 < count_by (λ z. bytes_eq z n) (m ∷ rest) → 0 < count_by (λ z. bytes_eq z n) names)
        → first_twice counts (values (option_to_list (right_of pairs m))) ≡ None
    none_given m rest among = elim (some_or_none (find (λ p. bytes_eq p.0 m) pairs)) [
      | inl s ↦
          let got = found_of (GivesNone counts names pairs) (λ p. bytes_eq p.0 m) pairs all s.0 s.1 in
          let same : s.0.0 ≡ m = same_bytes s.0.0 m got.1 in
          subst (λ n. first_twice counts (values (option_to_list (right_of pairs n))) ≡ None) same
          (got.0 (among s.0.0 (subst (λ n. 0 < count_by (λ z. bytes_eq z n) (m ∷ rest)) (sym same) (counted m rest))))
      | inr none ↦ ap (λ o. first_twice counts (values (option_to_list (option_map (λ p. p.1) o)))) none
    ]

    none_each : (some : List Name)
        → ((n : Name) → 0 < count_by (λ z. bytes_eq z n) some → 0 < count_by (λ z. bytes_eq z n) names)
        → first_twice counts (flat_map (λ m. values (option_to_list (right_of pairs m))) some) ≡ None
    none_each [] among = refl
    none_each (m ∷ rest) among =
        let here = none_given m rest among in
        let later = none_each rest (λ n there. among n (counted_later m n rest there)) in
        first_append (is_counted_twice counts) (values (option_to_list (right_of pairs m)))
        (flat_map (λ n. values (option_to_list (right_of pairs n))) rest)
        ∙ (λ j. option_or (here j) (later j))

    pub gives_none : first_twice counts (values (filter_map (right_of pairs) names)) ≡ None
    gives_none = ap (first_twice counts) (sym (values_each (right_of pairs) names)) ∙ none_each names (λ n there. there)

true_false : true ≡ false → ⊥
true_false h = cc

pub none_copied : {X : Type 0} (o : Option (Bor X)) → is_some o ≡ false → option_copied o ≡ None
none_copied None differ = refl
none_copied (Some x) differ = absurd (true_false differ)

-- a name alone
pub name_twice : (counts : Counts) (d : Declaration) (found : ℕ) → found ≡ times d.0 (unwrap_or (counts d.1) never)
    → 1 < found → Some d.1 ≡ first_twice counts (d ∷ [])
name_twice counts d found is more = sym (ap (λ b. option_map (λ e. e.1) (cond b (Some d) None))
    (more_than found (times d.0 (unwrap_or (counts d.1) never)) is more))
  where
    more_than : (n m : ℕ) → n ≡ m → 1 < n → nat_lt 1 m ≡ true
    more_than n m same lt = grind (arith, same, lt)

pub name_not_twice : (counts : Counts) (d : Declaration) (found : ℕ) → found ≡ times d.0 (unwrap_or (counts d.1) never)
    → found ≤ 1 → None ≡ first_twice counts (d ∷ [])
name_not_twice counts d found is few = sym (ap (λ b. option_map (λ e. e.1) (cond b (Some d) None))
    (not_more_than found (times d.0 (unwrap_or (counts d.1) never)) is few))
  where
    not_more_than : (n m : ℕ) → n ≡ m → n ≤ 1 → nat_lt 1 m ≡ false
    not_more_than n m same le = grind (arith, same, le)

-- the new names of variables, one after another
pub new_names_each : (names : Name → Option Name) (pairs : List (Name × Name)) (vars : List Variable)
    → ((n : Name) → names n ≡ right_of pairs n) → flat_map (λ v. values (option_to_list (names v.name))) vars
    ≡ values (filter_map (right_of pairs) (map (λ v. v.name) vars))
new_names_each names pairs vars same = values_each (λ v. names v.name) vars
    ∙ ((λ i. values (filter_map (λ v. same v.name i) vars)) ∙ ap values (sym (of_names (right_of pairs) vars)))

pub all_more : {X : Type 0} (Q : X → Type 0) (xs : List X) (i : ℕ) (x : X) → i < length xs → x ≡ get_or xs i x
    → All Q (take i xs) → Q x → All Q (take (i + 1) xs)
all_more Q xs i x lt is all one = All-more Q xs i x lt all (subst Q is one)
