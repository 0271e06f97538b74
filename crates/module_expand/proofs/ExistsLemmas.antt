-- Formulas that have an order in which each stands after those that it names have an expansion.
use Rattle.std.proofs.Common.{◌≡◌, ℕ, zero, suc, ◌<◌, ◌≤◌, List, Option, length, map, get_or, take, bytes_eq, cond, arith, refl, sym, ap, add-one, ◌∙◌, subst, Contains}
use Rattle.std.specs.Prelude.{None, Some, All}
use mathlib.Core.Logic.{inl, inr}
use Rattle.std.specs.Option.{option_map}
use Rattle.std.specs.List.{slice_get}
use Rattle.std.proofs.lemmas.Bool.{cases_Bool}
use Rattle.std.proofs.lemmas.Grind.{common_steps}
use Rattle.std.proofs.lemmas.List.{take_all}
use Rattle.std.proofs.lemmas.List.Elements.{Contains-push_cases}
use Rattle.prism_syntax.specs.declared.expressions.Expr.{Expr}
use Rattle.prism_syntax.specs.declared.expressions.Expr.TheVariants as e
use Rattle.prism_syntax.specs.declared.labels.Labels.TheVariants.{Refused}
use Rattle.prism_syntax.specs.declared.models.Named.{Named}
use Rattle.prism_syntax.specs.Replaced.{replaced}
use Rattle.prism_syntax.specs.WellFormed.{IsFormed, IsPlain, IsFormedFormula}
use Rattle.prism_names.specs.First.{Name, AreDistinct}
use Rattle.prism_names.specs.Names.{names_of}
use Rattle.name_graph.specs.Graph.{IsOrder}
use Rattle.module_expand.specs.Expanded.{stands_for, with_body, AreExpanded}
use Rattle.module_expand.specs.Refusals.{place_of, uses_of}
use Rattle.module_expand.proofs.ExpandedLemmas.{formula_of, stands-map}
use Rattle.module_expand.proofs.FirstLemmas.{same_bytes, not_none, some_same, some_or_none, one_more, find-at_position, itself}
use Rattle.module_expand.proofs.NamesLemmas.{same_on}
use Rattle.module_expand.proofs.OrderLemmas.{there_below, placed, not_placed, own_place, place_at, uses_place}
use Rattle.module_expand.proofs.FormedLemmas.{StandForFormed, replaced-formed}

-- each formula whose name stands in the tree is in the table
abbrev IsKnown : List Named → (Name → Option Expr) → Expr → Type 0
IsKnown formulas by x = (n : Name) → Contains (names_of x) n → by n ≡ None → formula_of formulas n ≡ None

-- a table of some formulas' trees: each is its formula's body, with the names replaced by this very table, which
-- knows them all
abbrev IsPart : List Named → (Name → Option Expr) → Type 0
IsPart formulas by = (n : Name) (t : Expr) → by n ≡ Some t
    → (f : Named) × (formula_of formulas n ≡ Some f) × (t ≡ e.Paren (replaced by f.body)) × IsKnown formulas by f.body

-- a table that has each formula is the expansion
part_whole : (formulas : List Named) (by : Name → Option Expr) → IsPart formulas by → ((n : Name) → by n ≡ None
    → formula_of formulas n ≡ None)
    → (n : Name) → by n ≡ stands_for (map (with_body (replaced by)) formulas) n
part_whole formulas by part each n = elim (some_or_none (by n)) [
  | inl s ↦ (let p = part n s.0 s.1 in s.1
      ∙ (ap Some p.2 ∙ (sym (ap (option_map (λ f. e.Paren (replaced by f.body))) p.1)
      ∙ sym (stands-map (replaced by) formulas n))))
  | inr h ↦ h ∙ (sym (ap (option_map (λ f. e.Paren (replaced by f.body))) (each n h))
      ∙ sym (stands-map (replaced by) formulas n))
]

-- one formula more
part_more : (formulas : List Named) (old new : Name → Option Expr) (f : Named) → IsPart formulas old
    → formula_of formulas f.name ≡ Some f → old f.name ≡ None → IsKnown formulas old f.body
    → ((n : Name) → new n ≡ cond (bytes_eq f.name n) (Some (e.Paren (replaced old f.body))) (old n))
    → IsPart formulas new
part_more formulas old new f part is absent known put n t got =
    let stays : (x : Expr) → IsKnown formulas old x → (m : Name) → Contains (names_of x) m → old m ≡ new m =
    λ x k m c. elim (cases_Bool (bytes_eq f.name m)) [
      | inl same ↦ absurd (let there = same_bytes f.name m same in
          not_none f (sym is ∙ (ap (formula_of formulas) there ∙ k m c (sym (ap old there) ∙ absent))))
      | inr other ↦ sym (put m ∙ ap (λ b. cond b (Some (e.Paren (replaced old f.body))) (old m)) other)
    ] in
    let keeps : (x : Expr) → IsKnown formulas old x → IsKnown formulas new x = λ x k m c h. k m c (stays x k m c ∙ h) in
    elim (cases_Bool (bytes_eq f.name n)) [
      | inl same ↦ (
        f,
        sym (ap (formula_of formulas) (same_bytes f.name n same)) ∙ is,
        some_same _ _ (sym got ∙ (put n ∙ ap (λ b. cond b (Some (e.Paren (replaced old f.body))) (old n)) same))
            ∙ ap (λ z. e.Paren z) (same_on old new f.body (stays f.body known)),
        keeps f.body known,
      )
      | inr other ↦ (let p = part n t (sym (put n ∙ ap (λ b. cond b (Some (e.Paren (replaced old f.body))) (old n))
          other) ∙ got) in
          (p.0, p.1, p.2 ∙ ap (λ z. e.Paren z) (same_on old new p.0.body (stays p.0.body p.3)), keeps p.0.body p.3))
    ]

-- the formulas at these places are in the table, which is made of well-formed trees where the formulas are well formed
record Covers (formulas : List Named) (places : List ℕ) : Type 0 where
  by : Name → Option Expr
  part : IsPart formulas by
  has : (n : Name) (p : ℕ) → place_of formulas n ≡ Some p → Contains places p → by n ≡ None → ⊥
  formed : All IsFormedFormula formulas → StandForFormed Refused by

-- the formula at one place more
covers_more : (formulas : List Named) (order : List ℕ) → IsOrder (uses_of formulas) order
    → AreDistinct (map (λ f. f.name) formulas)
    → (k : ℕ) → suc k ≤ length order → Covers formulas (take k order) → Covers formulas (take (suc k) order)
covers_more formulas order is_order distinct k le before = elim (some_or_none (before.by f.name)) [
  | inl s ↦ record {
    by = before.by;
    part = before.part;
    has = λ n p is c none. last n p is c (λ same. not_none s.0 (sym s.1 ∙ (ap before.by same ∙ none)))
        (λ front. before.has n p is front none);
    formed = before.formed;
  }
  | inr absent ↦ record {
    by = new;
    part = part_more formulas before.by new f before.part own absent known (λ n. refl);
    has = λ n p is c none. last n p is c (λ same. now n same none) (λ front. elim (cases_Bool (bytes_eq f.name n)) [
      | inl same ↦ now n (same_bytes f.name n same) none
      | inr other ↦ before.has n p is front (sym (ap (λ b. cond b (Some tree) (before.by n)) other) ∙ none)
    ]);
    formed = λ all n t got. elim (cases_Bool (bytes_eq f.name n)) [
      | inl same ↦ subst IsPlain (some_same tree t (sym (ap (λ b. cond b (Some tree) (before.by n)) same) ∙ got))
          (IsFormed.paren (replaced-formed Refused before.by (before.formed all) (subst (λ g. IsPlain g.body)
          (sym item.1) (all i f item.0).body)))
      | inr other ↦ before.formed all n t (sym (ap (λ b. cond b (Some tree) (before.by n)) other) ∙ got)
    ];
  }
]
  where
    turn : (i : ℕ) × (slice_get order k ≡ Some i)
    turn = there_below order k (omega (arith, le))

    i : ℕ
    i = turn.0

    at_turn : (k < length order) × (i ≡ get_or order k i)
    at_turn = place_at order k i turn.1

    longer : length (uses_of formulas) ≡ length formulas
    longer = grind (arith, common_steps)

    bound : i < length formulas
    bound = subst (λ n. i < n) longer (subst (λ j. j < length (uses_of formulas)) (sym at_turn.1)
        (is_order.within k i at_turn.0))

    here : (f : Named) × (slice_get formulas i ≡ Some f)
    here = there_below formulas i bound

    f : Named
    f = here.0

    item : (i < length formulas) × (f ≡ get_or formulas i f)
    item = place_at formulas i f here.1

    tree : Expr
    tree = e.Paren (replaced before.by f.body)

    new : Name → Option Expr
    new n = cond (bytes_eq f.name n) (Some tree) (before.by n)

    own : formula_of formulas f.name ≡ Some f
    own = find-at_position (λ g. bytes_eq g.name f.name) formulas i (own_place formulas i f distinct here.1) ∙ here.1

    known : IsKnown formulas before.by f.body
    known n c none = elim (some_or_none (place_of formulas n)) [
      | inl s ↦ absurd (before.has n s.0 s.1 (is_order.after k i s.0 turn.1
          (uses_place formulas i s.0 f n here.1 c s.1)) none)
      | inr no_place ↦ not_placed formulas n no_place
    ]

    now : (n : Name) → f.name ≡ n → new n ≡ None → ⊥
    now n same none = not_none tree (sym (ap (λ b. cond b (Some tree) (before.by n)) (ap (bytes_eq f.name) (sym same)
        ∙ itself f.name)) ∙ none)

    last : (n : Name) (p : ℕ) → place_of formulas n ≡ Some p → Contains (take (suc k) order) p → (f.name ≡ n → ⊥)
        → (Contains (take k order) p → ⊥) → ⊥
    last n p is c mine others =
        elim (Contains-push_cases (take k order) i p (subst (λ xs. Contains xs p)
        (ap (λ m. take m order) (sym (add-one k)) ∙ one_more order k i at_turn.0 at_turn.1) c)) [
          | inl front ↦ others front
          | inr same ↦ (let found = placed formulas n p is in
              mine (ap (λ g. g.name) (some_same f found.0 (sym here.1 ∙ (ap (slice_get formulas) same ∙ found.1)))
              ∙ found.3))
        ]

covers_upto : (formulas : List Named) (order : List ℕ) → IsOrder (uses_of formulas) order
    → AreDistinct (map (λ f. f.name) formulas)
    → (k : ℕ) → k ≤ length order → Covers formulas (take k order)
covers_upto formulas order is_order distinct zero le = record {
  by = λ n. None;
  part = λ n t got. absurd (not_none t (sym got));
  has = λ n p is c none. omega (arith, c.1);
  formed = λ all n t got. absurd (not_none t (sym got));
}
covers_upto formulas order is_order distinct (suc k) le = covers_more formulas order is_order distinct k le
    (covers_upto formulas order is_order distinct k (omega (arith, le)))

-- formulas with their expansion, which is well formed where they are
pub record HasExpansion (formulas : List Named) : Type 0 where
  pub trees : List Named
  pub expanded : AreExpanded formulas trees
  pub formed : All IsFormedFormula formulas → StandForFormed Refused (stands_for trees)

pub has_expansion : (formulas : List Named) (order : List ℕ) → IsOrder (uses_of formulas) order
    → AreDistinct (map (λ f. f.name) formulas) → HasExpansion formulas
has_expansion formulas order is_order distinct = record {
  trees = trees;
  expanded = λ i. map (with_body (replaced (λ n. same n i))) formulas;
  formed = λ all n t got. all_covered.formed all n t (same n ∙ got);
}
  where
    all_covered : Covers formulas (take (length order) order)
    all_covered = covers_upto formulas order is_order distinct (length order) (omega arith)

    trees : List Named
    trees = map (with_body (replaced all_covered.by)) formulas

    whole : take (length order) order ≡ order
    whole = take_all (length order) order (omega arith)

    each : (n : Name) → all_covered.by n ≡ None → formula_of formulas n ≡ None
    each n none = elim (some_or_none (place_of formulas n)) [
      | inl s ↦ absurd (all_covered.has n s.0 s.1 (subst (λ xs. Contains xs s.0) (sym whole)
          (is_order.all s.0 (below s.0 (placed formulas n s.0 s.1)))) none)
      | inr no_place ↦ not_placed formulas n no_place
    ]
      where
        below : (p : ℕ) → ((f : Named) × (slice_get formulas p ≡ Some f) × (formula_of formulas n ≡ Some f)
            × (f.name ≡ n)) → p < length (uses_of formulas)
        below p found = let bound = place_at formulas p found.0 found.1 in
            let longer : length (uses_of formulas) ≡ length formulas = grind (arith, common_steps) in
            omega (arith, bound.0, longer)

    same : (n : Name) → all_covered.by n ≡ stands_for trees n
    same = part_whole formulas all_covered.by all_covered.part each
