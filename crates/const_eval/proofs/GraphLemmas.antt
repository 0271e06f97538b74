-- What holds of each place of a graph in which none reaches itself.
use Rattle.std.proofs.Common.{◌≡◌, ℕ, zero, suc, ◌+◌, ◌<◌, List, [], Bool, true, false, length, get_or, set, replicate, cond, All, arith, refl, sym, ap, ◌∙◌, subst}
use Rattle.std.specs.Prelude.{◌⊎◌}
use Rattle.std.specs.List.{sum_by}
use mathlib.Core.Logic.{inl, inr}
use Rattle.std.proofs.lemmas.Bool.{cases_Bool, cases_eq, cases_lt}
use Rattle.std.proofs.lemmas.Grind.{common_steps}
use Rattle.std.proofs.lemmas.List.{get_or-set_other, get_or_past, length-set, length-replicate}
use Rattle.std.proofs.lemmas.List.Elements.{All-contains, All-get_or}
use Rattle.std.proofs.lemmas.List.Sums.{sum_by-set}
use Rattle.name_graph.specs.Graph.{Graph, Uses, Reaches, IsGraph, HasNoCycle}

-- a place is marked
abbrev IsMarked : List Bool → ℕ → Type 0
IsMarked marks i = get_or marks i false ≡ true

-- how many places have no mark
abbrev unmarked : List Bool → ℕ
unmarked marks = sum_by (λ m. cond m 0 1) marks

-- what is marked after one mark more was marked before, or is that place
marked_cases : (marks : List Bool) (j q : ℕ) → IsMarked (set marks j true) q → IsMarked marks q ⊎ (j ≡ q)
marked_cases marks j q s = elim (cases_eq q j) [ inl e ↦ inr (sym e) | inr ne ↦ inl (sym (get_or-set_other marks j q true false ne) ∙ s) ]

one_fewer : (marks : List Bool) (j : ℕ) → j < length marks → get_or marks j false ≡ false → unmarked (set marks j true) + 1 ≡ unmarked marks
one_fewer marks j lt fresh =
    let both = sum_by-set (λ m. cond m 0 1) marks j true false lt in
    let weight : Bool → ℕ = λ b. cond b 0 1 in
    let one : weight (get_or marks j false) ≡ weight false = ap weight fresh in
    omega (arith, both, one)

-- a way goes on
pub reaches_then : (graph : Graph) (i j k : ℕ) → Reaches graph i j → Uses graph j k → Reaches graph i k
reaches_then graph i j k (Reaches.uses u) v = Reaches.through u (Reaches.uses v)
reaches_then graph i j k (Reaches.through u r) v = Reaches.through u (reaches_then graph _ j k r v)

-- a place that is used is one of the graph
pub used_within : (graph : Graph) → IsGraph graph → (i j : ℕ) → Uses graph i j → j < length graph
used_within graph is i j u = elim (cases_lt i (length graph)) [
  | inl lt ↦ All-contains (λ k. k < length graph) (get_or graph i []) j (All-get_or (λ uses. All (λ k. k < length graph) uses) graph i [] lt is) u
  | inr past ↦ absurd (omega (arith, ap length (get_or_past graph i [] past), u.1))
]

-- by the number of places without a mark, where each marked place reaches this one
from_marks : (graph : Graph) → IsGraph graph → HasNoCycle graph → (P : ℕ → Type 0) → ((i : ℕ) → ((j : ℕ) → Uses graph i j → P j) → P i)
    → (k : ℕ) (marks : List Bool) (i : ℕ) → length marks ≡ length graph → unmarked marks ≡ k → i < length graph
    → ((q : ℕ) → IsMarked marks q → Reaches graph q i) → P i
from_marks graph is none P step zero marks i size count lt back = elim (cases_Bool (get_or marks i false)) [
  | inl marked ↦ absurd (none i (back i marked))
  | inr fresh ↦
      let within : i < length marks = omega (arith, size, lt) in
      absurd (omega (arith, one_fewer marks i within fresh, count))
]
from_marks graph is none P step (suc k) marks i size count lt back = elim (cases_Bool (get_or marks i false)) [
  | inl marked ↦ absurd (none i (back i marked))
  | inr fresh ↦
      let within : i < length marks = omega (arith, size, lt) in
      let fewer : unmarked (set marks i true) ≡ k = omega (arith, one_fewer marks i within fresh, count) in
      step i (λ j u. from_marks graph is none P step k (set marks i true) j (length-set marks i true ∙ size) fewer (used_within graph is i j u)
      (λ q m. elim (marked_cases marks i q m) [
        | inl was ↦ reaches_then graph q i j (back q was) u
        | inr e ↦ subst (λ z. Reaches graph z j) e (Reaches.uses u)
      ]))
]

-- what holds of a place if it holds of all that it uses holds of each place
pub by_uses : (graph : Graph) → IsGraph graph → HasNoCycle graph → (P : ℕ → Type 0) → ((i : ℕ) → ((j : ℕ) → Uses graph i j → P j) → P i)
    → (i : ℕ) → i < length graph → P i
by_uses graph is none P step i lt =
    from_marks graph is none P step _ (replicate (length graph) false) i (length-replicate (length graph) false) refl lt (λ q m. absurd (grind (arith, common_steps, m)))
