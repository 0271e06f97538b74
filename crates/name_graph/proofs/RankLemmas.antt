-- What ranks say of ways through a graph.
use Rattle.std.proofs.Common.{◌≡◌, ℕ, ◌<◌, ◌≤◌, List, [], get_or, Contains, All, arith, sym, subst}
use Rattle.std.proofs.lemmas.List.Elements.{All-contains}
use Rattle.name_graph.specs.Graph.{Graph, Uses, Reaches}
use Rattle.name_graph.specs.Ranks.{rank_of, AreRanks}

-- ranks rise nowhere along a way
never_rises : (graph : Graph) (ranks : List ℕ) → AreRanks graph ranks → (i j : ℕ) → Reaches graph i j → rank_of ranks j ≤ rank_of ranks i
never_rises graph ranks are i j (Reaches.uses link) = are i j link
never_rises graph ranks are i j (Reaches.through link way) = omega (arith, are i _ link, never_rises graph ranks are _ j way)

falls : (graph : Graph) (ranks : List ℕ) → AreRanks graph ranks → (i j : ℕ) → ((q : ℕ) → Uses graph i q → rank_of ranks q < rank_of ranks i)
    → Reaches graph i j → rank_of ranks j < rank_of ranks i
falls graph ranks are i j below (Reaches.uses link) = below j link
falls graph ranks are i j below (Reaches.through link way) = omega (arith, below _ link, never_rises graph ranks are _ j way)

-- a place that is ranked above all that it uses does not reach itself
pub above_uses : (graph : Graph) (ranks : List ℕ) (i : ℕ) (shown : List ℕ) (limit : ℕ) → AreRanks graph ranks → shown ≡ get_or graph i [] → limit ≡ rank_of ranks i
    → All (λ j. rank_of ranks j < limit) shown → Reaches graph i i → ⊥
above_uses graph ranks i shown limit are is top all way =
    let below : (q : ℕ) → Uses graph i q → rank_of ranks q < rank_of ranks i =
    λ q link. let less : rank_of ranks q < limit = All-contains (λ j. rank_of ranks j < limit) shown q all (subst (λ z. Contains z q) (sym is) link) in
    omega (arith, less, top) in
    omega (arith, falls graph ranks are i i below way)
