-- Renaming leaves numbers of nodes and depths as they are.
use Rattle.std.proofs.Common.{◌≡◌, ◌+◌, ◌-◌, ◌^◌, List, [], ◌∷◌, Option, map, sum, min, max, sym, ap, ◌∙◌, refl, subst, unwrap_or}
use Rattle.std.specs.Prelude.{None, Some}
use Rattle.std.specs.Option.{option_map}
use Rattle.prism_syntax.specs.declared.expressions.Expr.{Expr, map-Expr}
use Rattle.prism_syntax.specs.declared.expressions.Expr.TheVariants as e
use Rattle.prism_syntax.specs.declared.expressions.Expr.TheOpen.{Expr-F}
use Rattle.prism_syntax.specs.declared.expressions.Expr.TheOpen as top
use Rattle.prism_syntax.specs.declared.expressions.Expr.TheViews.{roll-Expr}
use Rattle.prism_syntax.specs.declared.expressions.Expr.TheFolds.{ind-Expr}
use Rattle.prism_syntax.specs.NodeCount.{node_count}
use Rattle.prism_syntax.specs.ParenDepth.{paren_depth, deepest}
use Rattle.prism_syntax.specs.Replaced.{replaced}
use Rattle.prism_names.specs.First.{Name}
use Rattle.module_expand.specs.declared.sizes.Size.{Size}
use Rattle.module_expand.specs.Renamed.{as_tree}
use Rattle.module_expand.specs.Sizes.{IsSize}
use Rattle.module_expand.proofs.TreeLemmas.{nodes-paren, nodes-not, nodes-minus, nodes-if, nodes-call, nodes-level, nodes-name, depth-paren, depth-not, depth-minus, depth-if, depth-call, depth-level, depth-name, replaced-paren, replaced-not, replaced-minus, replaced-if, replaced-name, replaced-call, replaced-level, replaced-whole, replaced-real, replaced-truth, replaced-quoted}

-- a tree is as large after renaming as before
abbrev Keeps : (Name → Option Name) → Expr → Type 0
Keeps names x = (node_count (replaced (as_tree names) x) ≡ node_count x) × (paren_depth (replaced (as_tree names) x)
    ≡ paren_depth x)

abbrev Kept : (Name → Option Name) → Type 0
Kept names = (x : Expr) × Keeps names x

kept_nodes : (names : Name → Option Name) (ps : List (Kept names))
    → map node_count (map (replaced (as_tree names)) (map (λ p. p.0) ps)) ≡ map node_count (map (λ p. p.0) ps)
kept_nodes names [] = refl
kept_nodes names (p ∷ ps) = let one = p.1.0 in let rest = kept_nodes names ps in λ i. one i ∷ rest i

kept_depths : (names : Name → Option Name) (ps : List (Kept names))
    → map paren_depth (map (replaced (as_tree names)) (map (λ p. p.0) ps)) ≡ map paren_depth (map (λ p. p.0) ps)
kept_depths names [] = refl
kept_depths names (p ∷ ps) = let one = p.1.1 in let rest = kept_depths names ps in λ i. one i ∷ rest i

name_keeps : (n : Name) (o : Option Name) → (node_count (unwrap_or (option_map (λ m. e.Name m) o) (e.Name n))
    ≡ node_count (e.Name n))
    × (paren_depth (unwrap_or (option_map (λ m. e.Name m) o) (e.Name n)) ≡ paren_depth (e.Name n))
name_keeps n None = (refl, refl)
name_keeps n (Some m) = (nodes-name m ∙ sym (nodes-name n), depth-name m ∙ sym (depth-name n))

both : (names : Name → Option Name) (x y : Expr) → replaced (as_tree names) x ≡ y → node_count y ≡ node_count x
    → paren_depth y ≡ paren_depth x → Keeps names x
both names x y is nodes depth = (ap node_count is ∙ nodes, ap paren_depth is ∙ depth)

layer : (names : Name → Option Name) (y : Expr-F (Kept names))
    → Keeps names (roll-Expr (map-Expr (Kept names) Expr (λ p. p.0) y))
layer names (top.Whole v) = subst (Keeps names) (sym (e.rolls-Whole v))
    (both names (e.Whole v) _ (replaced-whole (as_tree names) v) refl refl)
layer names (top.Real v) = subst (Keeps names) (sym (e.rolls-Real v))
    (both names (e.Real v) _ (replaced-real (as_tree names) v) refl refl)
layer names (top.Truth v) = subst (Keeps names) (sym (e.rolls-Truth v))
    (both names (e.Truth v) _ (replaced-truth (as_tree names) v) refl refl)
layer names (top.Name n) = subst (Keeps names) (sym (e.rolls-Name n))
    (both names (e.Name n) _ (replaced-name (as_tree names) n) (name_keeps n (names n)).0 (name_keeps n (names n)).1)
layer names (top.Quoted n) = subst (Keeps names) (sym (e.rolls-Quoted n)) (both names (e.Quoted n) _
    (replaced-quoted (as_tree names) n) refl refl)
layer names (top.Paren p) = subst (Keeps names) (sym (e.rolls-Paren p.0)) (both names (e.Paren p.0) _
    (replaced-paren (as_tree names) p.0)
    (nodes-paren _ ∙ (ap (λ n. 1 + n) p.1.0 ∙ sym (nodes-paren p.0))) (depth-paren _
    ∙ (ap (λ n. 1 + n) p.1.1 ∙ sym (depth-paren p.0))))
layer names (top.Call f ps) = subst (Keeps names) (sym (e.rolls-Call f (map (λ p. p.0) ps)))
    (both names (e.Call f (map (λ p. p.0) ps)) _ (replaced-call (as_tree names) f (map (λ p. p.0) ps))
    (nodes-call f _ ∙ (ap (λ ns. 1 + sum ns) (kept_nodes names ps) ∙ sym (nodes-call f (map (λ p. p.0) ps))))
    (depth-call f _ ∙ (ap deepest (kept_depths names ps) ∙ sym (depth-call f (map (λ p. p.0) ps)))))
layer names (top.Not p) = subst (Keeps names) (sym (e.rolls-Not p.0))
    (both names (e.Not p.0) _ (replaced-not (as_tree names) p.0)
    (nodes-not _ ∙ (ap (λ n. 1 + n) p.1.0 ∙ sym (nodes-not p.0))) (depth-not _ ∙ (p.1.1 ∙ sym (depth-not p.0))))
layer names (top.Minus p) = subst (Keeps names) (sym (e.rolls-Minus p.0)) (both names (e.Minus p.0) _
    (replaced-minus (as_tree names) p.0)
    (nodes-minus _ ∙ (ap (λ n. 1 + n) p.1.0 ∙ sym (nodes-minus p.0))) (depth-minus _ ∙ (p.1.1 ∙ sym (depth-minus p.0))))
layer names (top.Level ps os) = subst (Keeps names) (sym (e.rolls-Level (map (λ p. p.0) ps) os))
    (both names (e.Level (map (λ p. p.0) ps) os) _ (replaced-level (as_tree names) (map (λ p. p.0) ps) os)
    (nodes-level _ os ∙ (ap (λ ns. 1 + sum ns) (kept_nodes names ps) ∙ sym (nodes-level (map (λ p. p.0) ps) os)))
    (depth-level _ os ∙ (ap deepest (kept_depths names ps) ∙ sym (depth-level (map (λ p. p.0) ps) os))))
layer names (top.If p q r) = subst (Keeps names) (sym (e.rolls-If p.0 q.0 r.0)) (both names (e.If p.0 q.0 r.0) _
    (replaced-if (as_tree names) p.0 q.0 r.0)
    (nodes-if _ _ _ ∙ ((λ i. 1 + p.1.0 i + q.1.0 i + r.1.0 i) ∙ sym (nodes-if p.0 q.0 r.0)))
    (depth-if _ _ _ ∙ ((λ i. max (p.1.1 i) (max (q.1.1 i) (r.1.1 i))) ∙ sym (depth-if p.0 q.0 r.0))))

keeps : (names : Name → Option Name) (x : Expr) → Keeps names x
keeps names = ind-Expr (Keeps names) (λ x y is. subst (λ z. Keeps names (roll-Expr z)) is (layer names y))

-- the size of renamed expressions is that of the expressions
pub size-renamed : (names : Name → Option Name) (s : Size) (xs : List Expr) → IsSize s xs
    → IsSize s (map (replaced (as_tree names)) xs)
size-renamed names s xs p = record {
  nodes = p.nodes ∙ ap (λ ns. min (sum ns) (2 ^ 64 - 1)) (sym (nodes xs));
  depth = p.depth ∙ ap (λ ds. min (deepest ds) (2 ^ 64 - 1)) (sym (depths xs));
}
  where
    nodes : (ys : List Expr) → map node_count (map (replaced (as_tree names)) ys) ≡ map node_count ys
    nodes [] = refl
    nodes (y ∷ ys) = let one = (keeps names y).0 in let rest = nodes ys in λ i. one i ∷ rest i

    depths : (ys : List Expr) → map paren_depth (map (replaced (as_tree names)) ys) ≡ map paren_depth ys
    depths [] = refl
    depths (y ∷ ys) = let one = (keeps names y).1 in let rest = depths ys in λ i. one i ∷ rest i
