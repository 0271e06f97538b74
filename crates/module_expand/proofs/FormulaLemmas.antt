-- One formula more in the tables of trees and of sizes.
use Rattle.std.proofs.Common.{◌≡◌, ℕ, ◌+◌, ◌-◌, ◌^◌, List, [], ◌∷◌, Option, map, min, take, length, ◌≤◌, bytes_eq, cond, refl, sym, ap, ◌∙◌, subst}
use Rattle.std.specs.Prelude.{None, Some, ◌⊎◌}
use mathlib.Core.Logic.{inl, inr}
use Rattle.std.specs.Option.{option_map, option_and_then}
use Rattle.std.specs.List.{slice_get}
use Rattle.std.proofs.lemmas.List.{take_all}
use Rattle.prism_syntax.specs.declared.expressions.Expr.{Expr}
use Rattle.prism_syntax.specs.declared.expressions.Expr.TheVariants as e
use Rattle.prism_syntax.specs.declared.models.Named.{Named}
use Rattle.prism_syntax.specs.Replaced.{replaced}
use Rattle.prism_names.specs.First.{Name, AreDistinct}
use Rattle.name_graph.specs.Graph.{IsOrder}
use Rattle.module_expand.specs.declared.sizes.Size.{Size}
use Rattle.module_expand.specs.Expanded.{stands_for, AreExpanded}
use Rattle.module_expand.specs.Refusals.{uses_of}
use Rattle.module_expand.specs.Sizes.{size_of, IsSize, AreSizes}
use Rattle.module_expand.proofs.ExpandedLemmas.{formula_of, stands-map}
use Rattle.module_expand.proofs.FirstLemmas.{not_none, find-at_position}
use Rattle.module_expand.proofs.NamesLemmas.{same_on}
use Rattle.module_expand.proofs.OrderLemmas.{Knows, IsOfFormulas, knows_names, knows_more, knows_all, not_placed, own_place}
use Rattle.module_expand.proofs.SizeLemmas.{size-paren, size-of}

stands : (formulas trees : List Named) → AreExpanded formulas trees → (n : Name)
    → stands_for trees n ≡ option_map (λ f. e.Paren (replaced (stands_for trees) f.body)) (formula_of formulas n)
stands formulas trees is n = ap (λ z. stands_for z n) is ∙ stands-map (replaced (stands_for trees)) formulas n

-- what the name of a formula stands for
stands_at : (formulas trees : List Named) (i : ℕ) (f : Named) → AreExpanded formulas trees
    → AreDistinct (map (λ f. f.name) formulas)
    → slice_get formulas i ≡ Some f → stands_for trees f.name ≡ Some (e.Paren (replaced (stands_for trees) f.body))
stands_at formulas trees i f is distinct at =
    stands formulas trees is f.name ∙ ap (option_map (λ f. e.Paren (replaced (stands_for trees) f.body)))
    (find-at_position (λ g. bytes_eq g.name f.name) formulas i (own_place formulas i f distinct at) ∙ at)

pub unplaced_trees : (formulas trees : List Named) → AreExpanded formulas trees
    → IsOfFormulas formulas (stands_for trees)
unplaced_trees formulas trees is n none =
    stands formulas trees is n ∙ ap (option_map (λ f. e.Paren (replaced (stands_for trees) f.body)))
    (not_placed formulas n none)

-- the size of what a name stands for
abbrev pub size_told : List Named → Name → Option Size
size_told trees n = option_map size_of (stands_for trees n)

pub unplaced_sizes : (formulas trees : List Named) → AreExpanded formulas trees
    → IsOfFormulas formulas (size_told trees)
unplaced_sizes formulas trees is n none = ap (option_map size_of) (unplaced_trees formulas trees is n none)

-- one tree more
pub trees_more : (formulas trees : List Named) (order : List ℕ) (k i : ℕ) (f : Named) (old new : Name → Option Expr)
    (y : Expr)
    → AreExpanded formulas trees → AreDistinct (map (λ f. f.name) formulas) → IsOrder (uses_of formulas) order
    → slice_get order k ≡ Some i → slice_get formulas i ≡ Some f → y ≡ e.Paren (replaced old f.body)
    → ((n : Name) → new n ≡ cond (bytes_eq f.name n) (Some y) (old n))
    → Knows formulas (stands_for trees) old (take k order) → Knows formulas (stands_for trees) new (take (k + 1) order)
trees_more formulas trees order k i f old new y is distinct is_order at_k at_i made put knows =
    knows_more formulas (stands_for trees) old new order k i f y at_k at_i
    (stands_at formulas trees i f is distinct at_i ∙ ap Some (sym tree)) put knows
  where
    tree : y ≡ e.Paren (replaced (stands_for trees) f.body)
    tree = made ∙ ap (λ x. e.Paren x) (same_on old (stands_for trees) f.body
        (knows_names formulas (stands_for trees) old order k i f is_order (unplaced_trees formulas trees is)
        knows at_k at_i))

-- the trees whose sizes are known
abbrev known : (Name → Option Size) → (Name → Option Expr) → Name → Option Expr
known sizes by n = option_and_then (λ s. by n) (sizes n)

known_sizes : (sizes : Name → Option Size) (by : Name → Option Expr) → ((n : Name) → (sizes n ≡ None)
    ⊎ (sizes n ≡ option_map size_of (by n)))
    → AreSizes sizes (known sizes by)
known_sizes sizes by sound n = at (sizes n) (by n) (sound n)
  where
    at : (o : Option Size) (b : Option Expr) → (o ≡ None) ⊎ (o ≡ option_map size_of b) → o
        ≡ option_map size_of (option_and_then (λ s. b) o)
    at None b h = refl
    at (Some s) b (inl h) = absurd (not_none s h)
    at (Some s) b (inr h) = h

known_same : (o : Option Size) (b : Option Expr) → o ≡ option_map size_of b → option_and_then (λ s. b) o ≡ b
known_same None None h = refl
known_same None (Some x) h = absurd (not_none (size_of x) (sym h))
known_same (Some s) b h = refl

-- one size more
pub sizes_more : (formulas trees : List Named) (order : List ℕ) (k i : ℕ) (f : Named) (old new : Name → Option Size)
    (part y : Size)
    → AreExpanded formulas trees → AreDistinct (map (λ f. f.name) formulas) → IsOrder (uses_of formulas) order
    → slice_get order k ≡ Some i → slice_get formulas i ≡ Some f
    → ((by : Name → Option Expr) → AreSizes old by → IsSize part (replaced by f.body ∷ []))
    → y.nodes ≡ min (part.nodes + 1) (2 ^ 64 - 1) → y.depth ≡ min (part.depth + 1) (2 ^ 64 - 1)
    → ((n : Name) → new n ≡ cond (bytes_eq f.name n) (Some y) (old n))
    → Knows formulas (size_told trees) old (take k order) → Knows formulas (size_told trees) new (take (k + 1) order)
sizes_more formulas trees order k i f old new part y is distinct is_order at_k at_i measured nodes depth put knows =
    knows_more formulas (size_told trees) old new order k i f y at_k at_i
    (ap (option_map size_of) (stands_at formulas trees i f is distinct at_i)
    ∙ ap Some (sym (size-of y (e.Paren (replaced (stands_for trees) f.body)) size))) put knows
  where
    same : replaced (known old (stands_for trees)) f.body ≡ replaced (stands_for trees) f.body
    same = same_on (known old (stands_for trees)) (stands_for trees) f.body (λ n c. known_same (old n)
        (stands_for trees n)
        (knows_names formulas (size_told trees) old order k i f is_order (unplaced_sizes formulas trees is)
        knows at_k at_i n c))

    size : IsSize y (e.Paren (replaced (stands_for trees) f.body) ∷ [])
    size = size-paren part y (replaced (stands_for trees) f.body) nodes depth
        (subst (λ x. IsSize part (x ∷ [])) same (measured (known old (stands_for trees))
        (known_sizes old (stands_for trees) knows.sound)))

-- after the last turn each name has its tree, or its size
pub trees_all : (formulas trees : List Named) (order : List ℕ) (k : ℕ) (table : Name → Option Expr)
    → AreExpanded formulas trees
    → IsOrder (uses_of formulas) order → length order ≤ k → Knows formulas (stands_for trees) table (take k order)
    → (n : Name) → table n ≡ stands_for trees n
trees_all formulas trees order k table is is_order le knows =
    knows_all formulas (stands_for trees) table order is_order (unplaced_trees formulas trees is)
    (subst (λ places. Knows formulas (stands_for trees) table places) (take_all k order le) knows)

pub sizes_all : (formulas trees : List Named) (order : List ℕ) (k : ℕ) (table : Name → Option Size)
    → AreExpanded formulas trees
    → IsOrder (uses_of formulas) order → length order ≤ k → Knows formulas (size_told trees) table (take k order)
    → (n : Name) → table n ≡ size_told trees n
sizes_all formulas trees order k table is is_order le knows =
    knows_all formulas (size_told trees) table order is_order (unplaced_sizes formulas trees is)
    (subst (λ places. Knows formulas (size_told trees) table places) (take_all k order le) knows)
