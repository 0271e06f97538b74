-- Sizes of trees from the sizes of their parts.
use Rattle.std.proofs.Common.{◌≡◌, ℕ, ◌+◌, ◌-◌, ◌^◌, ◌<◌, ◌≤◌, List, [], ◌∷◌, ◌++◌, map, sum, min, max, arith, refl, sym, ap, ◌∙◌, subst, get_or, take, length}
use Rattle.std.specs.Prelude.{fold}
use Rattle.std.specs.List.{flat_map}
use Rattle.std.proofs.lemmas.Grind.{common_steps, flat_map-append}
use Rattle.std.proofs.lemmas.List.{map_more, map-append, take_all}
use Rattle.std.proofs.Math.Seq.{take-suc}
use Rattle.std.proofs.Common.{add-one}
use Rattle.prism_syntax.specs.declared.expressions.Expr.{Expr}
use Rattle.prism_syntax.specs.declared.expressions.Expr.TheVariants as e
use Rattle.prism_syntax.specs.declared.expressions.Func.{Func}
use Rattle.prism_syntax.specs.declared.expressions.Op.{Op}
use Rattle.prism_syntax.specs.NodeCount.{node_count}
use Rattle.prism_syntax.specs.ParenDepth.{paren_depth, deepest}
use Rattle.module_expand.specs.declared.sizes.Size.{Size}
use Rattle.module_expand.specs.Sizes.{size_of, IsSize}
use Rattle.module_expand.proofs.TreeLemmas.{nodes-paren, nodes-not, nodes-minus, nodes-if, nodes-call, nodes-level, depth-paren, depth-not, depth-minus, depth-if, depth-call, depth-level}

deepest_from : (a : ℕ) (xs : List ℕ) → fold max a xs ≡ max a (deepest xs)
deepest_from a [] = omega arith
deepest_from a (x ∷ xs) = let far = deepest_from (max a x) xs in let near = deepest_from (max 0 x) xs in
    omega (arith, far, near)

pub deepest-append : (xs ys : List ℕ) → deepest (xs ++ ys) ≡ max (deepest xs) (deepest ys)
deepest-append xs ys = joined 0 xs ∙ deepest_from (fold max 0 xs) ys
  where
    joined : (a : ℕ) (zs : List ℕ) → fold max a (zs ++ ys) ≡ fold max (fold max a zs) ys
    joined a [] = refl
    joined a (z ∷ zs) = joined (max a z) zs

nodes-append : (xs ys : List Expr) → sum (map node_count (xs ++ ys)) ≡ sum (map node_count xs) + sum (map node_count ys)
nodes-append xs ys = grind (arith, common_steps)

depths-append : (xs ys : List Expr) → deepest (map paren_depth (xs ++ ys)) ≡ max (deepest (map paren_depth xs))
    (deepest (map paren_depth ys))
depths-append xs ys = ap deepest (map-append paren_depth xs ys) ∙ deepest-append (map paren_depth xs)
    (map paren_depth ys)

-- expressions and others together
pub size-append : (a b r : Size) (xs ys : List Expr) → r.nodes ≡ min (a.nodes + b.nodes) (2 ^ 64 - 1) → r.depth
    ≡ max a.depth b.depth
    → IsSize a xs → IsSize b ys → IsSize r (xs ++ ys)
size-append a b r xs ys nodes depth p q = record {
  nodes = omega (arith, nodes-append xs ys, nodes, p.nodes, q.nodes);
  depth = omega (arith, depths-append xs ys, depth, p.depth, q.depth);
}

-- one list more
pub flat_more : {X : Type 0} (f : Expr → Expr) (g : X → List Expr) (xs : List X) (i : ℕ) (x : X) → i < length xs → x
    ≡ get_or xs i x
    → map f (flat_map g (take (i + 1) xs)) ≡ map f (flat_map g (take i xs)) ++ map f (g x)
flat_more f g xs i x lt is =
    ap (λ k. map f (flat_map g (take k xs))) (add-one i) ∙ (ap (λ z. map f (flat_map g z)) (take-suc xs i x lt
    ∙ ap (λ z. take i xs ++ (z ∷ [])) (sym is))
    ∙ (ap (map f) (flat_map-append g (take i xs) (x ∷ []) ∙ ap (λ z. flat_map g (take i xs) ++ z) (whole (g x)))
    ∙ map-append f (flat_map g (take i xs)) (g x)))
  where
    whole : (ys : List Expr) → ys ++ [] ≡ ys
    whole ys = grind (arith, common_steps)

-- the size of some items' expressions and of those of one item more
pub size-more : {X : Type 0} (a b r : Size) (f : Expr → Expr) (g : X → List Expr) (xs : List X) (i : ℕ) (x : X)
    → i < length xs → x ≡ get_or xs i x
    → r.nodes ≡ min (a.nodes + b.nodes) (2 ^ 64 - 1) → r.depth ≡ max a.depth b.depth
    → IsSize a (map f (flat_map g (take i xs))) → IsSize b (map f (g x))
    → IsSize r (map f (flat_map g (take (i + 1) xs)))
size-more a b r f g xs i x lt is nodes depth p q = subst (IsSize r) (sym (flat_more f g xs i x lt is))
    (size-append a b r _ _ nodes depth p q)

-- the same of items that have one expression each
pub size-map_more : {X : Type 0} (a b r : Size) (f : X → Expr) (xs : List X) (i : ℕ) (x : X) → i < length xs → x
    ≡ get_or xs i x
    → r.nodes ≡ min (a.nodes + b.nodes) (2 ^ 64 - 1) → r.depth ≡ max a.depth b.depth
    → IsSize a (map f (take i xs)) → IsSize b (f x ∷ []) → IsSize r (map f (take (i + 1) xs))
size-map_more a b r f xs i x lt is nodes depth p q =
    subst (IsSize r) (sym (map_more f xs i x lt ∙ ap (λ y. map f (take i xs) ++ (f y ∷ [])) (sym is)))
    (size-append a b r _ _ nodes depth p q)

-- no expressions
pub size-none : (r : Size) → r.nodes ≡ 0 → r.depth ≡ 0 → IsSize r []
size-none r nodes depth = record { nodes = omega (arith, nodes); depth = omega (arith, depth) }

-- an expression without parts
pub size-leaf : (r : Size) (x : Expr) → r.nodes ≡ 1 → r.depth ≡ 0 → node_count x ≡ 1 → paren_depth x ≡ 0
    → IsSize r (x ∷ [])
size-leaf r x nodes depth n d = record { nodes = omega (arith, nodes, n); depth = omega (arith, depth, d) }

pub size-paren : (a r : Size) (x : Expr) → r.nodes ≡ min (a.nodes + 1) (2 ^ 64 - 1) → r.depth
    ≡ min (a.depth + 1) (2 ^ 64 - 1)
    → IsSize a (x ∷ []) → IsSize r (e.Paren x ∷ [])
size-paren a r x nodes depth p = record {
  nodes = omega (arith, nodes-paren x, nodes, p.nodes);
  depth = omega (arith, depth-paren x, depth, p.depth);
}

pub size-not : (a r : Size) (x : Expr) → r.nodes ≡ min (a.nodes + 1) (2 ^ 64 - 1) → r.depth ≡ a.depth
    → IsSize a (x ∷ []) → IsSize r (e.Not x ∷ [])
size-not a r x nodes depth p = record {
  nodes = omega (arith, nodes-not x, nodes, p.nodes);
  depth = omega (arith, depth-not x, depth, p.depth);
}

pub size-minus : (a r : Size) (x : Expr) → r.nodes ≡ min (a.nodes + 1) (2 ^ 64 - 1) → r.depth ≡ a.depth
    → IsSize a (x ∷ []) → IsSize r (e.Minus x ∷ [])
size-minus a r x nodes depth p = record {
  nodes = omega (arith, nodes-minus x, nodes, p.nodes);
  depth = omega (arith, depth-minus x, depth, p.depth);
}

pub size-call : (a r : Size) (f : Func) (xs : List Expr) → r.nodes ≡ min (a.nodes + 1) (2 ^ 64 - 1) → r.depth
    ≡ a.depth → IsSize a xs → IsSize r (e.Call f xs ∷ [])
size-call a r f xs nodes depth p = record {
  nodes = omega (arith, nodes-call f xs, nodes, p.nodes);
  depth = omega (arith, depth-call f xs, depth, p.depth);
}

pub size-level : (a r : Size) (xs : List Expr) (os : List Op) → r.nodes ≡ min (a.nodes + 1) (2 ^ 64 - 1) → r.depth
    ≡ a.depth → IsSize a xs → IsSize r (e.Level xs os ∷ [])
size-level a r xs os nodes depth p = record {
  nodes = omega (arith, nodes-level xs os, nodes, p.nodes);
  depth = omega (arith, depth-level xs os, depth, p.depth);
}

pub size-if : (a r : Size) (x y z : Expr) → r.nodes ≡ min (a.nodes + 1) (2 ^ 64 - 1) → r.depth ≡ a.depth
    → IsSize a (x ∷ (y ∷ (z ∷ []))) → IsSize r (e.If x y z ∷ [])
size-if a r x y z nodes depth p = record {
  nodes = omega (arith, nodes-if x y z, nodes, p.nodes);
  depth = omega (arith, depth-if x y z, depth, p.depth);
}

-- a tree has its own size
pub size-itself : (x : Expr) → IsSize (size_of x) (x ∷ [])
size-itself x = record { nodes = omega arith; depth = omega arith }

-- a size is that of the tree
pub size-of : (s : Size) (x : Expr) → IsSize s (x ∷ []) → s ≡ size_of x
size-of s x p = let nodes : s.nodes ≡ min (node_count x) (2 ^ 64 - 1) = omega (arith, p.nodes) in
    let depth : s.depth ≡ min (paren_depth x) (2 ^ 64 - 1) = omega (arith, p.depth) in
    λ i. record { nodes = nodes i; depth = depth i }

pub size-all : {X : Type 0} (a : Size) (f : X → Expr) (xs : List X) (i : ℕ) → length xs ≤ i
    → IsSize a (map f (take i xs)) → IsSize a (map f xs)
size-all a f xs i le p = subst (λ z. IsSize a (map f z)) (take_all i xs le) p

pub size-all_flat : {X : Type 0} (a : Size) (f : Expr → Expr) (g : X → List Expr) (xs : List X) (i : ℕ) → length xs ≤ i
    → IsSize a (map f (flat_map g (take i xs))) → IsSize a (map f (flat_map g xs))
size-all_flat a f g xs i le p = subst (λ z. IsSize a (map f (flat_map g z))) (take_all i xs le) p

mapped_twice : {X : Type 0} (f : Expr → Expr) (g : X → Expr) (xs : List X) → map (λ x. f (g x)) xs ≡ map f (map g xs)
mapped_twice f g [] = refl
mapped_twice f g (x ∷ xs) = ap (λ z. f (g x) ∷ z) (mapped_twice f g xs)

pub size-all_mapped : {X : Type 0} (a : Size) (f : Expr → Expr) (g : X → Expr) (xs : List X) (i : ℕ) → length xs ≤ i
    → IsSize a (map (λ x. f (g x)) (take i xs)) → IsSize a (map f (map g xs))
size-all_mapped a f g xs i le p = subst (IsSize a) (mapped_twice f g xs) (size-all a (λ x. f (g x)) xs i le p)
