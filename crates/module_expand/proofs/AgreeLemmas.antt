-- Two tables under which a tree becomes the same.
use Rattle.std.proofs.Common.{◌≡◌, ℕ, ◌+◌, ◌≤◌, List, [], ◌∷◌, Option, map, sum, arith, refl, sym, ap, ◌∙◌, subst, MatchOption, unwrap_or}
use Rattle.std.specs.Prelude.{None, Some}
use Rattle.std.proofs.lemmas.Grind.{common_steps}
use Rattle.prism_syntax.specs.declared.expressions.Expr.{Expr, map-Expr}
use Rattle.prism_syntax.specs.declared.expressions.Expr.TheVariants as e
use Rattle.prism_syntax.specs.declared.expressions.Expr.TheOpen.{Expr-F}
use Rattle.prism_syntax.specs.declared.expressions.Expr.TheOpen as top
use Rattle.prism_syntax.specs.declared.expressions.Expr.TheViews.{roll-Expr}
use Rattle.prism_syntax.specs.declared.expressions.Expr.TheFolds.{fold-roll-Expr, ind-Expr}
use Rattle.prism_syntax.specs.NodeCount.{node_count}
use Rattle.prism_syntax.specs.Replaced.{replaced_step, replaced}
use Rattle.module_expand.proofs.TreeLemmas.{nodes-paren, nodes-not, nodes-minus, nodes-if, nodes-call, nodes-level}

-- the second table has each tree of at most k nodes that the first has
abbrev pub AgreesAt : (a b : List ℕ → Option Expr) → ℕ → List ℕ → Type 0
AgreesAt a b k n = MatchOption (a n) (b n ≡ None) (λ t. node_count t ≤ k → b n ≡ Some t)

-- a tree that has at most k nodes under the first table is the same under the second
abbrev pub Agrees : (a b : List ℕ → Option Expr) → ℕ → Expr → Type 0
Agrees a b k x = node_count (replaced a x) ≤ k → replaced a x ≡ replaced b x

name_agrees : (n : List ℕ) (k : ℕ) (s t : Option Expr) → MatchOption s (t ≡ None) (λ x. node_count x ≤ k → t ≡ Some x)
    → node_count (unwrap_or s (e.Name n)) ≤ k → unwrap_or s (e.Name n) ≡ unwrap_or t (e.Name n)
name_agrees n k None t h le = sym (ap (λ z. unwrap_or z (e.Name n)) h)
name_agrees n k (Some x) t h le = sym (ap (λ z. unwrap_or z (e.Name n)) (h le))

all_agree : (a b : List ℕ → Option Expr) (k : ℕ) (ps : List ((x : Expr) × Agrees a b k x))
    → sum (map node_count (map (replaced a) (map (λ p. p.0) ps))) ≤ k
    → map (replaced a) (map (λ p. p.0) ps) ≡ map (replaced b) (map (λ p. p.0) ps)
all_agree a b k [] le = refl
all_agree a b k (p ∷ ps) le =
    let both : node_count (replaced a p.0) + sum (map node_count (map (replaced a) (map (λ p. p.0) ps))) ≤ k =
    grind (arith, common_steps, le) in
    let one = p.1 (omega arith) in
    let rest = all_agree a b k ps (omega arith) in
    λ i. one i ∷ rest i

abbrev Under : (a b : List ℕ → Option Expr) → ℕ → Type 0
Under a b k = (x : Expr) × Agrees a b k x

-- one layer agrees where its parts do
layer : (a b : List ℕ → Option Expr) (k : ℕ) → ((n : List ℕ) → AgreesAt a b k n) → (y : Expr-F (Under a b k))
    → node_count (replaced_step a (map-Expr Expr Expr (replaced a) (map-Expr (Under a b k) Expr (λ p. p.0) y))) ≤ k
    → replaced_step a (map-Expr Expr Expr (replaced a) (map-Expr (Under a b k) Expr (λ p. p.0) y))
    ≡ replaced_step b (map-Expr Expr Expr (replaced b) (map-Expr (Under a b k) Expr (λ p. p.0) y))
layer a b k same (top.Whole v) le = refl
layer a b k same (top.Real v) le = refl
layer a b k same (top.Truth v) le = refl
layer a b k same (top.Name n) le = name_agrees n k (a n) (b n) (same n) le
layer a b k same (top.Quoted n) le = refl
layer a b k same (top.Paren p) le = let one = p.1 (omega (arith, nodes-paren (replaced a p.0), le)) in
    λ i. e.Paren (one i)
layer a b k same (top.Call f ps) le = let all =
    all_agree a b k ps (omega (arith, nodes-call f (map (replaced a) (map (λ p. p.0) ps)), le)) in λ i. e.Call f (all i)
layer a b k same (top.Not p) le = let one = p.1 (omega (arith, nodes-not (replaced a p.0), le)) in λ i. e.Not (one i)
layer a b k same (top.Minus p) le = let one = p.1 (omega (arith, nodes-minus (replaced a p.0), le)) in
    λ i. e.Minus (one i)
layer a b k same (top.Level ps os) le = let all =
    all_agree a b k ps (omega (arith, nodes-level (map (replaced a) (map (λ p. p.0) ps)) os, le)) in
    λ i. e.Level (all i) os
layer a b k same (top.If p q r) le =
    let count = nodes-if (replaced a p.0) (replaced a q.0) (replaced a r.0) in
    let one = p.1 (omega (arith, count, le)) in
    let two = q.1 (omega (arith, count, le)) in
    let three = r.1 (omega (arith, count, le)) in
    λ i. e.If (one i) (two i) (three i)

pub agree : (a b : List ℕ → Option Expr) (k : ℕ) → ((n : List ℕ) → AgreesAt a b k n) → (x : Expr) → Agrees a b k x
agree a b k same = ind-Expr (Agrees a b k) (λ x y is. subst (λ z. Agrees a b k (roll-Expr z)) is (λ le.
    let z = map-Expr (Under a b k) Expr (λ p. p.0) y in
    let here = fold-roll-Expr Expr (replaced_step a) z in
    let there = fold-roll-Expr Expr (replaced_step b) z in
    here ∙ (layer a b k same y (subst (λ t. node_count t ≤ k) here le) ∙ sym there)))
