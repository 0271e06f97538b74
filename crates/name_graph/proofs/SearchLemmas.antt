-- Searches for what a place reaches.
use Rattle.std.proofs.Common.{◌≡◌, ℕ, ◌+◌, ◌<◌, List, [], ◌∷◌, ◌++◌, Bool, true, false, length, get_or, set, take, replicate, Contains, arith, refl, sym, ap, add-one, ◌∙◌, subst, ◌↔◌}
use mathlib.Core.Logic.{inl, inr}
use Rattle.std.proofs.lemmas.Grind.{common_steps}
use Rattle.std.proofs.lemmas.List.{get_or-set_same}
use Rattle.std.proofs.lemmas.List.Elements.{Contains-push, Contains-push_cases, Contains-append_left}
use Rattle.std.proofs.Math.Seq.{take-suc}
use Rattle.name_graph.specs.Graph.{Graph, Uses, Reaches}
use Rattle.name_graph.specs.PartOrder.{IsMarked}
use Rattle.name_graph.specs.Search.{Adds, IsSearch}
use Rattle.name_graph.proofs.MarkLemmas.{marked_within, mark_kept, mark_from, mark_count, no_marks}
use Rattle.name_graph.proofs.GraphLemmas.{reaches_then}

pub adds_none : (seen : List Bool) (rest : List ℕ) → Adds [] seen seen rest rest
adds_none seen rest = record {
  all = λ j c. absurd (omega (arith, c.1));
  kept = λ j s. s;
  from = λ j s. inl s;
  waiting = λ j c. c;
  only = λ j c. inl c;
  count = refl;
  fewer = omega arith;
}

adds_skip : (front : List ℕ) (j : ℕ) (old new : List Bool) (was rest : List ℕ) → Adds front old new was rest → IsMarked new j → Adds (front ++ (j ∷ [])) old new was rest
adds_skip front j old new was rest a s = record {
  all = λ q c. elim (Contains-push_cases front j q c) [ inl h ↦ a.all q h | inr e ↦ subst (IsMarked new) e s ];
  kept = a.kept;
  from = λ q h. elim (a.from q h) [ inl o ↦ inl o | inr p ↦ inr (Contains-append_left front (j ∷ []) q p.0, p.1) ];
  waiting = a.waiting;
  only = a.only;
  count = a.count;
  fewer = a.fewer;
}

adds_push : (front : List ℕ) (j : ℕ) (old new : List Bool) (was rest : List ℕ) → Adds front old new was rest → j < length new → get_or new j false ≡ false
    → Adds (front ++ (j ∷ [])) old (set new j true) was (rest ++ (j ∷ []))
adds_push front j old new was rest a lt fresh =
    let one = mark_count new j lt fresh in
    let here : IsMarked (set new j true) j = get_or-set_same new j true false lt in
    let longer : length (rest ++ (j ∷ [])) ≡ length rest + 1 = grind (arith, common_steps) in
    record {
      all = λ q c. elim (Contains-push_cases front j q c) [ inl h ↦ mark_kept new j q lt (a.all q h) | inr e ↦ subst (IsMarked (set new j true)) e here ];
      kept = λ q h. mark_kept new j q lt (a.kept q h);
      from = λ q h. elim (mark_from new j q h) [
        | inl o ↦ elim (a.from q o) [ inl w ↦ inl w | inr p ↦ inr (Contains-append_left front (j ∷ []) q p.0, Contains-append_left rest (j ∷ []) q p.1) ]
        | inr e ↦ inr (subst (Contains (front ++ (j ∷ []))) e (Contains-push front j), subst (Contains (rest ++ (j ∷ []))) e (Contains-push rest j))
      ];
      waiting = λ q c. Contains-append_left rest (j ∷ []) q (a.waiting q c);
      only = λ q c. elim (Contains-push_cases rest j q c) [
        | inl h ↦ elim (a.only q h) [ inl w ↦ inl w | inr s ↦ inr (mark_kept new j q lt s) ]
        | inr e ↦ inr (subst (IsMarked (set new j true)) e here)
      ];
      count = omega (arith, a.count, one, longer);
      fewer = omega (arith, a.fewer, one);
    }

one_more : (uses : List ℕ) (i : ℕ) → i < length uses → take (i + 1) uses ≡ take i uses ++ (get_or uses i 0 ∷ [])
one_more uses i lt = ap (λ n. take n uses) (add-one i) ∙ take-suc uses i 0 lt

-- a place that was marked before is passed over
pub adds_skip_at : (uses : List ℕ) (i : ℕ) (old new seen : List Bool) (was rest waits : List ℕ) → i < length uses
    → Adds (take i uses) old new was rest → IsMarked new (get_or uses i 0) → seen ≡ new → waits ≡ rest → Adds (take (i + 1) uses) old seen was waits
adds_skip_at uses i old new seen was rest waits lt a s es er =
    subst (λ f. Adds f old seen was waits) (sym (one_more uses i lt))
    (subst (λ z. Adds (take i uses ++ (get_or uses i 0 ∷ [])) old z was waits) (sym es)
    (subst (λ z. Adds (take i uses ++ (get_or uses i 0 ∷ [])) old new was z) (sym er) (adds_skip (take i uses) (get_or uses i 0) old new was rest a s)))

-- another is marked, and waits
pub adds_push_at : (uses : List ℕ) (i : ℕ) (old new seen : List Bool) (was rest waits : List ℕ) → i < length uses
    → Adds (take i uses) old new was rest → get_or uses i 0 < length new → get_or new (get_or uses i 0) false ≡ false
    → seen ≡ set new (get_or uses i 0) true → waits ≡ rest ++ (get_or uses i 0 ∷ []) → Adds (take (i + 1) uses) old seen was waits
adds_push_at uses i old new seen was rest waits lt a within fresh es er =
    subst (λ f. Adds f old seen was waits) (sym (one_more uses i lt))
    (subst (λ z. Adds (take i uses ++ (get_or uses i 0 ∷ [])) old z was waits) (sym es)
    (subst (λ z. Adds (take i uses ++ (get_or uses i 0 ∷ [])) old (set new (get_or uses i 0) true) was z) (sym er)
    (adds_push (take i uses) (get_or uses i 0) old new was rest a within fresh)))

-- a search begins with what its place uses
pub search_begin : (graph : Graph) (start n : ℕ) (seen : List Bool) (rest : List ℕ)
    → Adds (get_or graph start []) (replicate n false) seen [] rest → length seen ≡ length graph → IsSearch graph start seen rest
search_begin graph start n seen rest a size = record {
  size = size;
  reached = λ j s. elim (a.from j s) [ inl o ↦ absurd (no_marks n j o) | inr p ↦ Reaches.uses p.0 ];
  begun = a.all;
  closed = λ i s. elim (a.from i s) [ inl o ↦ absurd (no_marks n i o) | inr p ↦ inl p.1 ];
  waits = λ i c. elim (a.only i c) [ inl w ↦ absurd (omega (arith, w.1)) | inr s ↦ s ];
}

-- and goes on with what a waiting place uses
pub search_more : (graph : Graph) (start place : ℕ) (old seen : List Bool) (was rest : List ℕ)
    → IsSearch graph start old (was ++ (place ∷ [])) → Adds (get_or graph place []) old seen was rest → length seen ≡ length graph → IsSearch graph start seen rest
search_more graph start place old seen was rest h a size =
    let marked : IsMarked old place = h.waits place (Contains-push was place) in
    record {
      size = size;
      reached = λ j s. elim (a.from j s) [ inl o ↦ h.reached j o | inr p ↦ reaches_then graph start place j (h.reached place marked) p.0 ];
      begun = λ j u. a.kept j (h.begun j u);
      closed = λ i s. elim (a.from i s) [
        | inl o ↦ elim (h.closed i o) [
          | inl c ↦ elim (Contains-push_cases was place i c) [
            | inl w ↦ inl (a.waiting i w)
            | inr e ↦ inr (subst (λ z. (j : ℕ) → Uses graph z j → IsMarked seen j) e a.all)
          ]
          | inr all ↦ inr (λ j u. a.kept j (all j u))
        ]
        | inr p ↦ inl p.1
      ];
      waits = λ i c. elim (a.only i c) [ inl w ↦ a.kept i (h.waits i (Contains-append_left was (place ∷ []) i w)) | inr s ↦ s ];
    }

-- marks that are closed hold all that a marked place reaches
closed_reaches : (graph : Graph) (seen : List Bool) → ((i : ℕ) → IsMarked seen i → (j : ℕ) → Uses graph i j → IsMarked seen j)
    → (i j : ℕ) → IsMarked seen i → Reaches graph i j → IsMarked seen j
closed_reaches graph seen closed i j s (Reaches.uses u) = closed i s j u
closed_reaches graph seen closed i j s (Reaches.through u r) = closed_reaches graph seen closed _ j (closed i s _ u) r

from_begun : (graph : Graph) (seen : List Bool) → ((i : ℕ) → IsMarked seen i → (j : ℕ) → Uses graph i j → IsMarked seen j)
    → (i j : ℕ) → ((k : ℕ) → Uses graph i k → IsMarked seen k) → Reaches graph i j → IsMarked seen j
from_begun graph seen closed i j begun (Reaches.uses u) = begun _ u
from_begun graph seen closed i j begun (Reaches.through u r) = closed_reaches graph seen closed _ j (begun _ u) r

-- when none waits, the marks are what is reached
pub search_end : (graph : Graph) (start : ℕ) (seen : List Bool) → IsSearch graph start seen [] → IsMarked seen start ↔ Reaches graph start start
search_end graph start seen h =
    let closed : (i : ℕ) → IsMarked seen i → (j : ℕ) → Uses graph i j → IsMarked seen j =
    λ i s. elim (h.closed i s) [ inl c ↦ absurd (omega (arith, c.1)) | inr all ↦ all ] in
    (h.reached start, from_begun graph seen closed start start h.begun)

-- a waiting place is within
pub waits_within : (graph : Graph) (start place : ℕ) (seen : List Bool) (was rest : List ℕ) → IsSearch graph start seen rest → rest ≡ was ++ (place ∷ []) → place < length graph
waits_within graph start place seen was rest h is =
    let marked : IsMarked seen place = h.waits place (subst (λ z. Contains z place) (sym is) (Contains-push was place)) in
    omega (arith, marked_within seen place marked, h.size)
