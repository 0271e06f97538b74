-- Tables that are filled in an order in which each formula stands after those that it names, and the expansion that
-- there is then.
use Rattle.std.proofs.Common.{◌≡◌, ℕ, zero, suc, ◌+◌, ◌<◌, ◌≤◌, List, [], ◌∷◌, Option, Bool, true, false, length, map, get_or, take, find, bytes_eq, cond, arith, refl, sym, ap, ◌∙◌, subst, Contains, Bor}
use Rattle.std.specs.Prelude.{None, Some, ◌⊎◌, position, IsSome, MatchOption, All}
use mathlib.Core.Logic.{inl, inr}
use Rattle.std.specs.Option.{option_copied}
use Rattle.std.specs.List.{slice_get, filter_map, cons_option, HoldsAt}
use Rattle.std.proofs.lemmas.Bool.{cases_Bool}
use Rattle.std.proofs.lemmas.Grind.{common_steps}
use Rattle.std.proofs.lemmas.List.Elements.{Contains-append_right, Contains-push_cases, All-nil, All-cons, All-map}
use Rattle.std.proofs.lemmas.List.Quantifiers.{position-Some}
use Rattle.prism_syntax.specs.declared.models.Named.{Named}
use Rattle.prism_names.specs.First.{Name, AreDistinct}
use Rattle.prism_names.specs.Names.{names_of}
use Rattle.name_graph.specs.Graph.{IsGraph, Uses, IsOrder}
use Rattle.module_expand.specs.Refusals.{place_of, uses_of}
use Rattle.module_expand.proofs.ExpandedLemmas.{formula_of}
use Rattle.module_expand.proofs.FirstLemmas.{same_bytes, not_none, some_same, some_or_none, one_more, find-at_position, find-no_position, itself}

-- an item of a list is there at its place
pub at_place : {X : Type 0} (xs : List X) (i : ℕ) (x : X) → i < length xs → x ≡ get_or xs i x → slice_get xs i ≡ Some x
at_place [] i x lt is = absurd (omega (arith, lt))
at_place (y ∷ xs) zero x lt is = ap Some (sym is)
at_place (y ∷ xs) (suc i) x lt is = at_place xs i x (omega (arith, lt)) is

pub place_at : {X : Type 0} (xs : List X) (i : ℕ) (x : X) → slice_get xs i ≡ Some x → (i < length xs)
    × (x ≡ get_or xs i x)
place_at [] i x h = absurd (not_none x (sym h))
place_at (y ∷ xs) zero x h = (omega arith, sym (some_same y x h))
place_at (y ∷ xs) (suc i) x h = let rest = place_at xs i x h in (omega (arith, rest.0), rest.1)

past : {X : Type 0} (xs : List X) (i : ℕ) → length xs ≤ i → slice_get xs i ≡ None
past [] i le = refl
past (y ∷ xs) zero le = absurd (omega (arith, le))
past (y ∷ xs) (suc i) le = past xs i (omega (arith, le))

-- what `get` of a slice gives is the item at that place
pub got_item : {X : Type 0} (xs : List X) (i : ℕ) (r : Option (Bor X)) → (i < length xs → IsSome r)
    → MatchOption r (length xs ≤ i) (λ x. (i < length xs) × HoldsAt (λ y. x.now ≡ y) xs i) → option_copied r
    ≡ slice_get xs i
got_item xs i None some item = sym (past xs i item)
got_item xs i (Some x) some item = sym (at_place xs i x.now item.0 (item.1 x.now))

-- a number of a list is there at its place
pub at_number : (xs : List ℕ) (k : ℕ) → k < length xs → slice_get xs k ≡ Some (get_or xs k 0)
at_number [] k lt = absurd (omega (arith, lt))
at_number (x ∷ xs) zero lt = refl
at_number (x ∷ xs) (suc k) lt = at_number xs k (omega (arith, lt))

-- a place of an order is that of a formula
pub order_within : (formulas : List Named) (order : List ℕ) (k : ℕ) → IsOrder (uses_of formulas) order
    → k < length order → get_or order k 0 < length formulas
order_within formulas order k is_order lt =
    let longer : length (uses_of formulas) ≡ length formulas = grind (arith, common_steps) in
    let below = is_order.within k 0 lt in
    omega (arith, below, longer)

-- a row of the graph
row : (formulas rest : List Named) (i : ℕ) (f : Named) → slice_get rest i ≡ Some f
    → get_or (map (λ f. filter_map (place_of formulas) (names_of f.body)) rest) i [] ≡ filter_map (place_of formulas)
    (names_of f.body)
row formulas [] i f h = absurd (not_none f (sym h))
row formulas (g ∷ rest) zero f h = ap (λ f. filter_map (place_of formulas) (names_of f.body)) (some_same g f h)
row formulas (g ∷ rest) (suc i) f h = row formulas rest i f h

-- what an element gives is in the list of what all give
given : {X Y : Type 0} (h : X → Option Y) (xs : List X) (k : ℕ) (x : X) (y : Y) → slice_get xs k ≡ Some x → h x
    ≡ Some y → Contains (filter_map h xs) y
given h [] k x y at is = absurd (not_none x (sym at))
given h (z ∷ xs) zero x y at is =
    subst (λ o. Contains (cons_option o (filter_map h xs)) y) (sym (ap h (some_same z x at) ∙ is))
    (zero, omega arith, refl)
given h (z ∷ xs) (suc k) x y at is = behind (h z) (given h xs k x y at is)
  where
    behind : (o : Option _) → Contains (filter_map h xs) y → Contains (cons_option o (filter_map h xs)) y
    behind None c = c
    behind (Some w) c = Contains-append_right (w ∷ []) (filter_map h xs) y c

-- a formula uses the place of each formula that it names
pub uses_place : (formulas : List Named) (i p : ℕ) (f : Named) (n : Name) → slice_get formulas i ≡ Some f
    → Contains (names_of f.body) n
    → place_of formulas n ≡ Some p → Uses (uses_of formulas) i p
uses_place formulas i p f n at c is =
    subst (λ xs. Contains xs p) (sym (row formulas formulas i f at))
    (given (place_of formulas) (names_of f.body) c.0 n p (at_place (names_of f.body) c.0 n c.1 (sym c.2)) is)

pub there_below : {X : Type 0} (xs : List X) (i : ℕ) → i < length xs → (x : X) × (slice_get xs i ≡ Some x)
there_below [] i lt = absurd (omega (arith, lt))
there_below (x ∷ xs) zero lt = (x, refl)
there_below (x ∷ xs) (suc i) lt = there_below xs i (omega (arith, lt))

-- a place that is told is within the list
within : {X : Type 0} (p : X → Bool) (xs : List X) (i : ℕ) → position p xs ≡ Some i → i < length xs
within p [] i h = absurd (not_none i (sym h))
within p (x ∷ xs) i h = (position-Some p (x ∷ xs) i x h).0

-- the place of a name is that of a formula of this name
pub placed : (formulas : List Named) (n : Name) (p : ℕ) → place_of formulas n ≡ Some p
    → (f : Named) × (slice_get formulas p ≡ Some f) × (formula_of formulas n ≡ Some f) × (f.name ≡ n)
placed formulas n p is =
    let there = there_below formulas p (within (λ f. bytes_eq f.name n) formulas p is) in
    let f = there.0 in
    let item = place_at formulas p f there.1 in (
      f,
      there.1,
      find-at_position (λ f. bytes_eq f.name n) formulas p is ∙ there.1,
      same_bytes f.name n (ap (λ g. bytes_eq g.name n) item.1
          ∙ (position-Some (λ f. bytes_eq f.name n) formulas p f is).1),
    )

-- a name without a place stands for no formula
pub not_placed : (formulas : List Named) (n : Name) → place_of formulas n ≡ None → formula_of formulas n ≡ None
not_placed formulas n is = find-no_position (λ f. bytes_eq f.name n) formulas is

-- where none is found none passes
none_passes : {X : Type 0} (p : X → Bool) (xs : List X) (k : ℕ) (x : X) → find p xs ≡ None → slice_get xs k ≡ Some x
    → p x ≡ true → ⊥
none_passes p [] k x none at pass = not_none x (sym at)
none_passes p (y ∷ xs) zero x none at pass =
    not_none y (sym (ap (λ b. cond b (Some y) (find p xs)) (ap p (some_same y x at) ∙ pass)) ∙ none)
none_passes p (y ∷ xs) (suc k) x none at pass = elim (cases_Bool (p y)) [
  | inl passes ↦ not_none y (sym (ap (λ b. cond b (Some y) (find p xs)) passes) ∙ none)
  | inr fails ↦ none_passes p xs k x (sym (ap (λ b. cond b (Some y) (find p xs)) fails) ∙ none) at pass
]

name_there : (formulas : List Named) (i : ℕ) (f : Named) (d : Name) → slice_get formulas i ≡ Some f
    → get_or (map (λ f. f.name) formulas) i d ≡ f.name
name_there [] i f d at = absurd (not_none f (sym at))
name_there (g ∷ formulas) zero f d at = ap (λ h. h.name) (some_same g f at)
name_there (g ∷ formulas) (suc i) f d at = name_there formulas i f d at

-- where names differ, each formula is the first of its name
pub own_place : (formulas : List Named) (i : ℕ) (f : Named) → AreDistinct (map (λ f. f.name) formulas)
    → slice_get formulas i ≡ Some f
    → place_of formulas f.name ≡ Some i
own_place formulas i f distinct at = elim (some_or_none (place_of formulas f.name)) [
  | inl s ↦ s.1 ∙ ap Some (same_place s.0 s.1)
  | inr none ↦ absurd (none_passes (λ g. bytes_eq g.name f.name) formulas i f (not_placed formulas f.name none) at
      (itself f.name))
]
  where
    apart : (p q : ℕ) (g h : Named) → slice_get formulas p ≡ Some g → slice_get formulas q ≡ Some h → g.name ≡ h.name
        → p < q → ⊥
    apart p q g h at_p at_q same lt =
        let bound = place_at formulas q h at_q in
        let longer : length (map (λ f. f.name) formulas) ≡ length formulas = grind (arith, common_steps) in
        distinct p q [] lt (omega (arith, bound.0, longer)) (name_there formulas p g [] at_p
        ∙ (same ∙ sym (name_there formulas q h [] at_q)))

    same_place : (p : ℕ) → place_of formulas f.name ≡ Some p → p ≡ i
    same_place p is =
        let there = placed formulas f.name p is in
        let not_below : p < i → ⊥ = apart p i there.0 f there.1 at there.3 in
        let not_above : i < p → ⊥ = apart i p f there.0 at there.1 (sym there.3) in
        omega (arith, not_below, not_above)

-- what is told of each name that stands for a formula, so far as its formula is at one of these places
pub record Knows {Y : Type 0} (formulas : List Named) (told : Name → Option Y) (table : Name → Option Y)
    (places : List ℕ) : Type 0 where
  pub sound : (n : Name) → (table n ≡ None) ⊎ (table n ≡ told n)
  pub has : (n : Name) (p : ℕ) → place_of formulas n ≡ Some p → Contains places p → table n ≡ told n

-- nothing is told of names that stand for no formula
abbrev pub IsOfFormulas : {Y : Type 0} → List Named → (Name → Option Y) → Type 0
IsOfFormulas formulas told = (n : Name) → place_of formulas n ≡ None → told n ≡ None

pub knows_none : {Y : Type 0} (formulas : List Named) (told table : Name → Option Y) → ((n : Name) → table n ≡ None)
    → Knows formulas told table []
knows_none formulas told table empty = record {
  sound = λ n. inl (empty n);
  has =
      λ n p is c. absurd (omega (arith, c.1));
}

-- before a formula's turn its names are known
pub knows_names : {Y : Type 0} (formulas : List Named) (told table : Name → Option Y) (order : List ℕ) (k i : ℕ)
    (f : Named)
    → IsOrder (uses_of formulas) order → IsOfFormulas formulas told → Knows formulas told table (take k order)
    → slice_get order k ≡ Some i → slice_get formulas i ≡ Some f → (n : Name) → Contains (names_of f.body) n
    → table n ≡ told n
knows_names formulas told table order k i f is_order unplaced knows at_k at_i n c =
    elim (some_or_none (place_of formulas n)) [
      | inl s ↦ knows.has n s.0 s.1 (is_order.after k i s.0 at_k (uses_place formulas i s.0 f n at_i c s.1))
      | inr none ↦ elim (knows.sound n) [ inl t ↦ t ∙ sym (unplaced n none) | inr t ↦ t ]
    ]

-- one formula more is known
pub knows_more : {Y : Type 0} (formulas : List Named) (told old new : Name → Option Y) (order : List ℕ) (k i : ℕ)
    (f : Named) (y : Y)
    → slice_get order k ≡ Some i → slice_get formulas i ≡ Some f → told f.name ≡ Some y
    → ((n : Name) → new n ≡ cond (bytes_eq f.name n) (Some y) (old n)) → Knows formulas told old (take k order)
    → Knows formulas told new (take (k + 1) order)
knows_more formulas told old new order k i f y at_k at_i is put knows = record { sound = sound; has = has }
  where
    here : (n : Name) → bytes_eq f.name n ≡ true → new n ≡ told n
    here n same = put n ∙ (ap (λ b. cond b (Some y) (old n)) same ∙ (sym is ∙ ap told (same_bytes f.name n same)))

    there : (n : Name) → bytes_eq f.name n ≡ false → new n ≡ old n
    there n other = put n ∙ ap (λ b. cond b (Some y) (old n)) other

    sound : (n : Name) → (new n ≡ None) ⊎ (new n ≡ told n)
    sound n = elim (cases_Bool (bytes_eq f.name n)) [
      | inl same ↦ inr (here n same)
      | inr other ↦ elim (knows.sound n) [ inl t ↦ inl (there n other ∙ t) | inr t ↦ inr (there n other ∙ t) ]
    ]

    before : (n : Name) (p : ℕ) → place_of formulas n ≡ Some p → Contains (take k order) p → new n ≡ told n
    before n p has_place c = elim (cases_Bool (bytes_eq f.name n)) [
      | inl same ↦ here n same
      | inr other ↦ there n other ∙ knows.has n p has_place c
    ]

    its_own : (n : Name) (p : ℕ) → place_of formulas n ≡ Some p → i ≡ p → new n ≡ told n
    its_own n p has_place same =
        let found = placed formulas n p has_place in
        let name_is : f.name ≡ n = ap (λ g. g.name) (some_same f found.0 (sym at_i ∙ (ap (slice_get formulas) same
        ∙ found.1))) ∙ found.3 in
        here n (ap (bytes_eq f.name) (sym name_is) ∙ itself f.name)

    has : (n : Name) (p : ℕ) → place_of formulas n ≡ Some p → Contains (take (k + 1) order) p → new n ≡ told n
    has n p has_place c =
        let item = place_at order k i at_k in
        elim (Contains-push_cases (take k order) i p (subst (λ xs. Contains xs p) (one_more order k i item.0 item.1)
        c)) [
          | inl front ↦ before n p has_place front
          | inr same ↦ its_own n p has_place same
        ]

-- after the last turn all is known
pub knows_all : {Y : Type 0} (formulas : List Named) (told table : Name → Option Y) (order : List ℕ)
    → IsOrder (uses_of formulas) order
    → IsOfFormulas formulas told → Knows formulas told table order → (n : Name) → table n ≡ told n
knows_all formulas told table order is_order unplaced knows n = elim (some_or_none (place_of formulas n)) [
  | inl s ↦ knows.has n s.0 s.1 (is_order.all s.0 (below s.0 (placed formulas n s.0 s.1)))
  | inr none ↦ elim (knows.sound n) [ inl t ↦ t ∙ sym (unplaced n none) | inr t ↦ t ]
]
  where
    below : (p : ℕ) → ((f : Named) × (slice_get formulas p ≡ Some f) × (formula_of formulas n ≡ Some f)
        × (f.name ≡ n)) → p < length (uses_of formulas)
    below p found = let bound = place_at formulas p found.0 found.1 in
        let longer : length (uses_of formulas) ≡ length formulas = grind (arith, common_steps) in
        omega (arith, bound.0, longer)

kept_hold : {X Y : Type 0} (h : X → Option Y) (P : Y → Type 0) → ((x : X) (y : Y) → h x ≡ Some y → P y)
    → (xs : List X) → All P (filter_map h xs)
kept_hold h P holds [] = All-nil P
kept_hold h P holds (x ∷ xs) = elim (some_or_none (h x)) [
  | inl s ↦ subst (λ o. All P (cons_option o (filter_map h xs))) (sym s.1) (All-cons P s.0 (filter_map h xs)
      (holds x s.0 s.1) (kept_hold h P holds xs))
  | inr none ↦ subst (λ o. All P (cons_option o (filter_map h xs))) (sym none) (kept_hold h P holds xs)
]

-- each use is of a formula that is there
pub uses_graph : (formulas : List Named) → IsGraph (uses_of formulas)
uses_graph formulas = All-map (λ row. All (λ j. j < length (uses_of formulas)) row)
    (λ f. filter_map (place_of formulas) (names_of f.body)) formulas
    (λ k d lt. kept_hold (place_of formulas) (λ j. j < length (uses_of formulas)) inside (names_of _))
  where
    inside : (n : Name) (p : ℕ) → place_of formulas n ≡ Some p → p < length (uses_of formulas)
    inside n p is =
        let found = placed formulas n p is in
        let bound = place_at formulas p found.0 found.1 in
        let longer : length (uses_of formulas) ≡ length formulas = grind (arith, common_steps) in
        omega (arith, bound.0, longer)
