-- Ways through a graph, and what an order or a first cycle says of them.
use Rattle.std.proofs.Common.{◌≡◌, ℕ, zero, suc, ◌<◌, List, [], length, get_or, take, Contains, All, arith, sym, ap, ◌∙◌, subst}
use Rattle.std.specs.Prelude.{Some, slice_get}
use mathlib.Core.Logic.{inl, inr}
use Rattle.std.proofs.lemmas.Bool.{cases_lt}
use Rattle.std.proofs.lemmas.List.{get_or_past, get_or_default, get_or-take, length-take}
use Rattle.std.proofs.lemmas.List.Elements.{All-contains, All-get_or}
use Rattle.std.proofs.lemmas.Option.{slice_get-get_or}
use Rattle.name_graph.specs.Graph.{Graph, Uses, IsGraph, Reaches, IsOrder, OrdersHaveNoCycle}

-- what uses another is within
pub user_within : (graph : Graph) (i j : ℕ) → Uses graph i j → i < length graph
user_within graph i j link = elim (cases_lt i (length graph)) [
  | inl within ↦ within
  | inr past ↦ absurd (nothing j (subst (λ uses. Contains uses j) (get_or_past graph i [] past) link))
]
  where
    nothing : (x : ℕ) → Contains {X = ℕ} [] x → ⊥
    nothing x c = omega (arith, c.1)

-- what is used is within
pub used_within : (graph : Graph) (i j : ℕ) → IsGraph graph → Uses graph i j → j < length graph
used_within graph i j ok link =
    All-contains (λ q. q < length graph) (get_or graph i []) j (All-get_or (λ uses. All (λ q. q < length graph) uses) graph i [] (user_within graph i j link) ok) link

-- what reaches another is within
pub reacher_within : (graph : Graph) (i j : ℕ) → Reaches graph i j → i < length graph
reacher_within graph i j (Reaches.uses link) = user_within graph i _ link
reacher_within graph i j (Reaches.through link way) = user_within graph i _ link

-- a way goes on
pub reaches_then : (graph : Graph) (i j k : ℕ) → Reaches graph i j → Uses graph j k → Reaches graph i k
reaches_then graph i j k (Reaches.uses first) link = Reaches.through first (Reaches.uses link)
reaches_then graph i j k (Reaches.through first way) link = Reaches.through first (reaches_then graph _ j k way link)

-- a place stands in an order before k
abbrev StandsBefore : List ℕ → ℕ → ℕ → Type 0
StandsBefore order k j = (q : ℕ) × (q < k) × (slice_get order q ≡ Some j)

stands_before : (order : List ℕ) (k j : ℕ) → Contains (take k order) j → StandsBefore order k j
stands_before order k j c =
    let size = length-take k order in
    let lower : c.0 < k = omega (arith, c.1, size) in
    let within : c.0 < length order = omega (arith, c.1, size) in
    (c.0, lower, slice_get-get_or order c.0 j within ∙ ap Some (sym (get_or-take k order c.0 j lower) ∙ c.2))

-- what a place reaches stands before it
reached_before : (graph : Graph) (order : List ℕ) → IsOrder graph order → (k i j : ℕ) → slice_get order k ≡ Some i → Reaches graph i j → StandsBefore order k j
reached_before graph order is k i j at (Reaches.uses link) = stands_before order k j (is.after k i j at link)
reached_before graph order is k i j at (Reaches.through link way) =
    let between = stands_before order k _ (is.after k i _ at link) in
    let last = reached_before graph order is between.0 _ j between.2 way in
    (last.0, omega (arith, last.1, between.1), last.2)

-- so a place that reaches itself would stand ever further down
descends : (graph : Graph) (order : List ℕ) → IsOrder graph order → (n k i : ℕ) → k < n → slice_get order k ≡ Some i → Reaches graph i i → ⊥
descends graph order is zero k i less at way = omega (arith, less)
descends graph order is (suc n) k i less at way =
    let before = reached_before graph order is k i i at way in
    descends graph order is n before.0 i (omega (arith, before.1, less)) before.2 way

pub orders_have_no_cycle : OrdersHaveNoCycle
orders_have_no_cycle graph order is i way =
    let here = is.all i (reacher_within graph i i way) in
    descends graph order is (length order) here.0 i here.1 (slice_get-get_or order here.0 i here.1 ∙ ap Some here.2) way

-- a row of a graph that code has read
pub row_is : (graph : Graph) (i : ℕ) (row shown : List ℕ) → i < length graph → row ≡ get_or graph i row → shown ≡ row → shown ≡ get_or graph i []
row_is graph i row shown within is so = so ∙ (is ∙ get_or_default graph i row [] within)

pub row_within : (graph : Graph) (i n : ℕ) (shown : List ℕ) → IsGraph graph → i < length graph → n ≡ length graph → shown ≡ get_or graph i []
    → All (λ j. j < n) shown
row_within graph i n shown ok within size is = subst (λ m. All (λ j. j < m) shown) (sym size)
    (subst (λ r. All (λ j. j < length graph) r) (sym is) (All-get_or (λ r. All (λ j. j < length graph) r) graph i [] within ok))
