-- Where no place can be appended, some place reaches itself.
use Rattle.std.proofs.Common.{◌≡◌, ℕ, zero, suc, ◌<◌, List, Bool, true, false, length, get_or, set, replicate, arith, refl, sym, subst}
use Rattle.std.specs.Prelude.{◌⊎◌}
use mathlib.Core.Logic.{inl, inr}
use Rattle.std.proofs.lemmas.Bool.{cases_Bool}
use Rattle.std.proofs.lemmas.Grind.{common_steps}
use Rattle.name_graph.specs.Graph.{Graph, Uses, IsGraph, Reaches, HasNoCycle}
use Rattle.name_graph.specs.PartOrder.{IsMarked, unmarked, IsPartOrder, IsStuck}
use Rattle.name_graph.proofs.MarkLemmas.{not_both, mark_from, mark_count, no_marks, some_unmarked}
use Rattle.name_graph.proofs.GraphLemmas.{used_within, reaches_then}

-- each marked place is this one or reaches it
abbrev AreBehind : Graph → ℕ → List Bool → Type 0
AreBehind graph place marks = (q : ℕ) → IsMarked marks q → Reaches graph q place ⊎ (q ≡ place)

behind_more : (graph : Graph) (place next : ℕ) (marks : List Bool) → Uses graph place next → AreBehind graph place marks → AreBehind graph next (set marks next true)
behind_more graph place next marks link behind q marked = elim (mark_from marks next q marked) [
  | inl before ↦ elim (behind q before) [
    | inl way ↦ inl (reaches_then graph q place next way link)
    | inr e ↦ inl (subst (λ z. Reaches graph z next) (sym e) (Reaches.uses link))
  ]
  | inr e ↦ inr (sym e)
]

-- a use of a place behind closes a cycle
closes : (graph : Graph) (place next : ℕ) → HasNoCycle graph → Uses graph place next → Reaches graph next place ⊎ (next ≡ place) → ⊥
closes graph place next none link (inl way) = none next (reaches_then graph next place next way link)
closes graph place next none link (inr e) = none next (subst (λ z. Reaches graph z next) (sym e) (Reaches.uses link))

-- a walk along uses of places that are not done comes back, at the latest when all are marked
comes_back : (graph : Graph) (done : List Bool) → IsGraph graph → HasNoCycle graph → IsStuck graph done
    → (k place : ℕ) (marks : List Bool) → unmarked marks ≡ k → length marks ≡ length graph → place < length graph → ¬ IsMarked done place
    → AreBehind graph place marks → ⊥
comes_back graph done ok none stuck zero place marks count size lt out behind =
    let next = stuck place lt out in
    let within : next.0 < length graph = used_within graph place next.0 ok next.1 in
    elim (cases_Bool (get_or marks next.0 false)) [
      | inl seen ↦ closes graph place next.0 none next.1 (behind next.0 seen)
      | inr fresh ↦ omega (arith, count, mark_count marks next.0 (omega (arith, size, within)) fresh)
    ]
comes_back graph done ok none stuck (suc k) place marks count size lt out behind =
    let next = stuck place lt out in
    let within : next.0 < length graph = used_within graph place next.0 ok next.1 in
    let marked : next.0 < length marks = omega (arith, size, within) in
    elim (cases_Bool (get_or marks next.0 false)) [
      | inl seen ↦ closes graph place next.0 none next.1 (behind next.0 seen)
      | inr fresh ↦ comes_back graph done ok none stuck k next.0 (set marks next.0 true) (omega (arith, count, mark_count marks next.0 marked fresh))
          (grind (arith, common_steps, size)) within next.2 (behind_more graph place next.0 marks next.1 behind)
    ]

-- an order that is stuck leaves out no place, unless one reaches itself
pub stuck_cycle : (graph : Graph) (done : List Bool) (order : List ℕ) → IsGraph graph → IsPartOrder graph done order
    → length order < length graph → IsStuck graph done → ¬ HasNoCycle graph
stuck_cycle graph done order ok part less stuck none =
    let left = some_unmarked done (omega (arith, part.count, less)) in
    let within : left.0 < length graph = omega (arith, left.1, part.size) in
    comes_back graph done ok none stuck (unmarked (replicate (length graph) false)) left.0 (replicate (length graph) false) refl (grind (arith, common_steps)) within
    (λ marked. not_both (get_or done left.0 false) marked left.2) (λ q marked. absurd (no_marks (length graph) q marked))
