-- Tables that give the same for each name of a tree replace the names of that tree by the same.
use Rattle.std.proofs.Common.{◌≡◌, List, [], ◌∷◌, ◌++◌, Option, map, sym, ap, ◌∙◌, subst, Contains, unwrap_or, refl}
use Rattle.std.proofs.lemmas.List.Elements.{Contains-append_left, Contains-append_right, Contains-push}
use Rattle.prism_syntax.specs.declared.expressions.Expr.{Expr, map-Expr}
use Rattle.prism_syntax.specs.declared.expressions.Expr.TheVariants as e
use Rattle.prism_syntax.specs.declared.expressions.Expr.TheOpen.{Expr-F}
use Rattle.prism_syntax.specs.declared.expressions.Expr.TheOpen as top
use Rattle.prism_syntax.specs.declared.expressions.Expr.TheViews.{roll-Expr}
use Rattle.prism_syntax.specs.declared.expressions.Expr.TheFolds.{fold-roll-Expr, ind-Expr}
use Rattle.prism_syntax.specs.Replaced.{replaced_step, replaced}
use Rattle.prism_names.specs.First.{Name}
use Rattle.prism_names.specs.Names.{concatenated, names_step, names_of}

-- the tables give the same for each of these names
abbrev pub Same : (a b : Name → Option Expr) → List Name → Type 0
Same a b names = (n : Name) → Contains names n → a n ≡ b n

abbrev pub On : (a b : Name → Option Expr) → Expr → Type 0
On a b x = Same a b (names_of x) → replaced a x ≡ replaced b x

abbrev Both : (a b : Name → Option Expr) → Type 0
Both a b = (x : Expr) × On a b x

all_on : (a b : Name → Option Expr) (ps : List (Both a b)) → Same a b (concatenated (map names_of (map (λ p. p.0) ps)))
    → map (replaced a) (map (λ p. p.0) ps) ≡ map (replaced b) (map (λ p. p.0) ps)
all_on a b [] same = refl
all_on a b (p ∷ ps) same =
    let one = p.1 (λ n c. same n (Contains-append_left (names_of p.0)
    (concatenated (map names_of (map (λ q. q.0) ps))) n c)) in
    let rest = all_on a b ps
    (λ n c. same n (Contains-append_right (names_of p.0) (concatenated (map names_of (map (λ q. q.0) ps))) n c)) in
    λ i. one i ∷ rest i

layer : (a b : Name → Option Expr) (y : Expr-F (Both a b))
    → Same a b (names_step (map-Expr Expr (List Name) names_of (map-Expr (Both a b) Expr (λ p. p.0) y)))
    → replaced_step a (map-Expr Expr Expr (replaced a) (map-Expr (Both a b) Expr (λ p. p.0) y))
    ≡ replaced_step b (map-Expr Expr Expr (replaced b) (map-Expr (Both a b) Expr (λ p. p.0) y))
layer a b (top.Whole v) same = refl
layer a b (top.Real v) same = refl
layer a b (top.Truth v) same = refl
layer a b (top.Name n) same = ap (λ o. unwrap_or o (e.Name n)) (same n (Contains-push [] n))
layer a b (top.Quoted n) same = refl
layer a b (top.Paren p) same = let one = p.1 same in λ i. e.Paren (one i)
layer a b (top.Call f ps) same = let all = all_on a b ps same in λ i. e.Call f (all i)
layer a b (top.Not p) same = let one = p.1 same in λ i. e.Not (one i)
layer a b (top.Minus p) same = let one = p.1 same in λ i. e.Minus (one i)
layer a b (top.Level ps os) same = let all = all_on a b ps same in λ i. e.Level (all i) os
layer a b (top.If p q r) same =
    let one = p.1 (λ n c. same n (Contains-append_left (names_of p.0) (names_of q.0 ++ names_of r.0) n c)) in
    let two = q.1 (λ n c. same n (Contains-append_right (names_of p.0) (names_of q.0 ++ names_of r.0) n
    (Contains-append_left (names_of q.0) (names_of r.0) n c))) in
    let three = r.1 (λ n c. same n (Contains-append_right (names_of p.0) (names_of q.0 ++ names_of r.0) n
    (Contains-append_right (names_of q.0) (names_of r.0) n c))) in
    λ i. e.If (one i) (two i) (three i)

-- tables that give the same for each name of a tree replace it by the same
pub same_on : (a b : Name → Option Expr) (x : Expr) → On a b x
same_on a b = ind-Expr (On a b) (λ x y is. subst (λ z. On a b (roll-Expr z)) is (λ same.
    let z = map-Expr (Both a b) Expr (λ p. p.0) y in
    fold-roll-Expr Expr (replaced_step a) z
    ∙ (layer a b y (subst (Same a b) (fold-roll-Expr (List Name) names_step z) same)
    ∙ sym (fold-roll-Expr Expr (replaced_step b) z))))
