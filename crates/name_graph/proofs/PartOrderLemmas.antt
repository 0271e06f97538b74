-- Orders that grow by one place.
use Rattle.std.proofs.Common.{◌≡◌, ℕ, zero, suc, ◌+◌, ◌<◌, ◌≤◌, List, [], ◌∷◌, ◌++◌, Bool, true, false, length, get_or, set, take, Contains, All, arith, refl, sym, ap, ◌∙◌, subst}
use Rattle.std.specs.Prelude.{◌⊎◌, Some, slice_get}
use mathlib.Core.Logic.{inl, inr}
use Rattle.std.proofs.lemmas.Bool.{cases_Bool}
use Rattle.std.proofs.lemmas.Grind.{common_steps}
use Rattle.std.proofs.lemmas.List.{get_or-set_same, take_all, take-append-le}
use Rattle.std.proofs.lemmas.List.Elements.{Contains-push, Contains-push_cases, Contains-append_left, Contains-get_or, All-contains, All-push}
use Rattle.std.proofs.lemmas.List.Quantifiers.{all_pairs_push}
use Rattle.std.proofs.lemmas.Option.{none-some}
use Rattle.name_graph.specs.Graph.{Graph, Uses, IsOrder}
use Rattle.name_graph.specs.PartOrder.{IsMarked, IsPartOrder, IsStuckBelow, Moves}
use Rattle.name_graph.proofs.MarkLemmas.{same_or_not, not_both, mark_kept, mark_from, mark_count}

some_same : (x y : ℕ) → Some x ≡ Some y → x ≡ y
some_same x y same = cc

-- an item of a list with one item more is one of the list, or the last
before_or_last : (xs : List ℕ) (y x k : ℕ) → slice_get (xs ++ (y ∷ [])) k ≡ Some x
    → ((slice_get xs k ≡ Some x) × (k ≤ length xs)) ⊎ ((k ≡ length xs) × (y ≡ x))
before_or_last [] y x zero is = inr (refl, some_same y x is)
before_or_last [] y x (suc k) is = absurd (none-some x is)
before_or_last (z ∷ xs) y x zero is = inl (is, omega arith)
before_or_last (z ∷ xs) y x (suc k) is = elim (before_or_last xs y x k is) [
  | inl p ↦ inl (p.0, grind (arith, common_steps, p.1))
  | inr p ↦ inr (grind (arith, common_steps, p.0), p.1)
]

after_more : (graph : Graph) (order : List ℕ) (i : ℕ) → ((k a j : ℕ) → slice_get order k ≡ Some a → Uses graph a j → Contains (take k order) j)
    → ((j : ℕ) → Uses graph i j → Contains order j) → (k a j : ℕ) → slice_get (order ++ (i ∷ [])) k ≡ Some a → Uses graph a j
    → Contains (take k (order ++ (i ∷ []))) j
after_more graph order i after here k a j at link = elim (before_or_last order i a k at) [
  | inl p ↦ subst (λ front. Contains front j) (sym (take-append-le k order (i ∷ []) p.1)) (after k a j p.0 link)
  | inr p ↦
      let front : take k (order ++ (i ∷ [])) ≡ order =
      ap (λ n. take n (order ++ (i ∷ []))) p.0 ∙ (take-append-le (length order) order (i ∷ []) (omega arith) ∙ take_all (length order) order (omega arith)) in
      subst (λ z. Contains z j) (sym front) (here j (subst (λ z. Uses graph z j) (sym p.1) link))
]

-- a place all of whose uses are done is appended
pub part_order_more : (graph : Graph) (done : List Bool) (order : List ℕ) (i : ℕ) → IsPartOrder graph done order → i < length graph
    → get_or done i false ≡ false → All (λ j. IsMarked done j) (get_or graph i []) → IsPartOrder graph (set done i true) (order ++ (i ∷ []))
part_order_more graph done order i h lt fresh all =
    let longer : length (order ++ (i ∷ [])) ≡ length order + 1 = grind (arith, common_steps) in
    let within : i < length done = omega (arith, h.size, lt) in
    let here : IsMarked (set done i true) i = get_or-set_same done i true false within in
    record {
      within = All-push (λ j. j < length graph) order i h.within lt;
      once = all_pairs_push (λ a b. ¬ (a ≡ b)) order i h.once
          (λ k d inside same. not_both (get_or done i false) (h.only i (subst (Contains order) same (Contains-get_or order k d inside))) fresh);
      after = after_more graph order i h.after (λ j link. h.marked j (All-contains (λ q. IsMarked done q) (get_or graph i []) j all link));
      marked = λ j s. elim (mark_from done i j s)
          [ inl o ↦ Contains-append_left order (i ∷ []) j (h.marked j o) | inr e ↦ subst (Contains (order ++ (i ∷ []))) e (Contains-push order i) ];
      only = λ j c. elim (Contains-push_cases order i j c) [ inl o ↦ mark_kept done i j within (h.only j o) | inr e ↦ subst (IsMarked (set done i true)) e here ];
      size = grind (arith, common_steps, h.size);
      count = omega (arith, h.count, mark_count done i within fresh, longer);
    }

-- an order of all places is whole
pub whole_order : (graph : Graph) (done : List Bool) (order : List ℕ) → IsPartOrder graph done order → length graph ≤ length order → IsOrder graph order
whole_order graph done order h le = record {
  within = h.within;
  all = λ i lt. elim (cases_Bool (get_or done i false)) [
    | inl s ↦ h.marked i s
    | inr fresh ↦ absurd (omega (arith, h.count, le, mark_count done i (omega (arith, h.size, lt)) fresh))
  ];
  once = h.once;
  after = h.after;
}

stuck_more : (graph : Graph) (done : List Bool) (i : ℕ) → IsStuckBelow graph done i
    → (¬ IsMarked done i → (j : ℕ) × Uses graph i j × ¬ IsMarked done j) → IsStuckBelow graph done (i + 1)
stuck_more graph done i stuck here k lt out = elim (same_or_not k i) [
  | inl e ↦ subst (λ z. ¬ IsMarked done z → (j : ℕ) × Uses graph z j × ¬ IsMarked done j) (sym e) here out
  | inr ne ↦ stuck k (omega (arith, lt, ne)) out
]

-- a visit makes no order shorter
pub grown_more : (n : ℕ) (graph : Graph) (i : ℕ) (old new : List Bool) (before order : List ℕ) → n ≤ length before
    → Moves graph i old new before order → n ≤ length order
grown_more n graph i old new before order le (inl p) = grind (arith, le, p.1)
grown_more n graph i old new before order le (inr e) = omega (arith, le, e)

-- where visits have moved nothing, the places so far are stuck
pub stuck_moves : (n : ℕ) (graph : Graph) (i : ℕ) (old new : List Bool) (before order : List ℕ) → n ≤ length before
    → (length before ≡ n → IsStuckBelow graph old i) → Moves graph i old new before order → length order ≡ n → IsStuckBelow graph new (i + 1)
stuck_moves n graph i old new before order le stuck (inl p) same =
    subst (λ z. IsStuckBelow graph z (i + 1)) (sym p.0) (stuck_more graph old i (stuck (ap length (sym p.1) ∙ same)) p.2)
stuck_moves n graph i old new before order le stuck (inr e) same = absurd (omega (arith, le, e, same))
