-- An expression has one value under two tables that agree on the names that stand in it.
use Rattle.std.proofs.Common.{◌≡◌, List, [], ◌∷◌, ◌++◌, map, refl, sym, ◌∙◌, subst, Contains}
use Rattle.std.proofs.lemmas.List.Elements.{Contains-append_left, Contains-append_right, Contains-push}
use Rattle.prism_syntax.specs.declared.expressions.Expr.{Expr, map-Expr}
use Rattle.prism_syntax.specs.declared.expressions.Expr.TheOpen.{Expr-F}
use Rattle.prism_syntax.specs.declared.expressions.Expr.TheOpen as top
use Rattle.prism_syntax.specs.declared.expressions.Expr.TheViews.{roll-Expr}
use Rattle.prism_syntax.specs.declared.expressions.Expr.TheFolds.{fold-roll-Expr, ind-Expr}
use Rattle.chain_model.specs.Values.{Valued, level_value, call_value}
use Rattle.prism_names.specs.First.{Name}
use Rattle.prism_names.specs.Names.{names_step, names_of, concatenated}
use Rattle.const_eval.specs.Tables.{op_of, func_of}
use Rattle.const_eval.specs.Evaluating.{value_step, value_in}

-- both give each of these names the same
abbrev pub AgreeOn : (f g : Name → Valued) → List Name → Type 0
AgreeOn f g names = (name : Name) → Contains names name → f name ≡ g name

-- an expression has one value where both agree on its names
abbrev pub Agrees : (f g : Name → Valued) → Expr → Type 0
Agrees f g x = AgreeOn f g (names_of x) → value_in f x ≡ value_in g x

agree_left : (f g : Name → Valued) (xs ys : List Name) → AgreeOn f g (xs ++ ys) → AgreeOn f g xs
agree_left f g xs ys both name c = both name (Contains-append_left xs ys name c)

agree_right : (f g : Name → Valued) (xs ys : List Name) → AgreeOn f g (xs ++ ys) → AgreeOn f g ys
agree_right f g xs ys both name c = both name (Contains-append_right xs ys name c)

abbrev Under : (f g : Name → Valued) → Type 0
Under f g = (x : Expr) × Agrees f g x

all_agree : (f g : Name → Valued) (ps : List ((x : Expr) × Agrees f g x))
    → AgreeOn f g (concatenated (map names_of (map (λ p. p.0) ps)))
    → map (value_in f) (map (λ p. p.0) ps) ≡ map (value_in g) (map (λ p. p.0) ps)
all_agree f g [] both = refl
all_agree f g (p ∷ ps) both =
    let rest : List Name = concatenated (map names_of (map (λ q. q.0) ps)) in
    let one = p.1 (agree_left f g (names_of p.0) rest both) in
    let others = all_agree f g ps (agree_right f g (names_of p.0) rest both) in
    λ i. one i ∷ others i

-- one layer agrees where its parts do
layer : (f g : Name → Valued) (y : Expr-F (Under f g))
    → AgreeOn f g (names_step (map-Expr Expr (List Name) names_of (map-Expr (Under f g) Expr (λ p. p.0) y)))
    → value_step f (map-Expr Expr Valued (value_in f) (map-Expr (Under f g) Expr (λ p. p.0) y))
    ≡ value_step g (map-Expr Expr Valued (value_in g) (map-Expr (Under f g) Expr (λ p. p.0) y))
layer f g (top.Whole v) both = refl
layer f g (top.Real v) both = refl
layer f g (top.Truth v) both = refl
layer f g (top.Name n) both = both n (Contains-push [] n)
layer f g (top.Quoted n) both = refl
layer f g (top.Paren p) both = p.1 both
layer f g (top.Call h ps) both = let all = all_agree f g ps both in λ i. call_value (func_of h) (all i)
layer f g (top.Not p) both = let one = p.1 both in λ i. value_step f (top.Not (one i))
layer f g (top.Minus p) both = let one = p.1 both in λ i. value_step f (top.Minus (one i))
layer f g (top.Level ps os) both = let all = all_agree f g ps both in λ i. level_value (all i) (map op_of os)
layer f g (top.If p q r) both =
    let one = p.1 (agree_left f g (names_of p.0) (names_of q.0 ++ names_of r.0) both) in
    let rest = agree_right f g (names_of p.0) (names_of q.0 ++ names_of r.0) both in
    let two = q.1 (agree_left f g (names_of q.0) (names_of r.0) rest) in
    let three = r.1 (agree_right f g (names_of q.0) (names_of r.0) rest) in
    λ i. value_step f (top.If (one i) (two i) (three i))

-- the value of an expression goes by what its names stand for alone
pub agrees : (f g : Name → Valued) (x : Expr) → Agrees f g x
agrees f g = ind-Expr (Agrees f g) (λ x y is. subst (λ z. Agrees f g (roll-Expr z)) is (λ both.
    let z = map-Expr (Under f g) Expr (λ p. p.0) y in
    let here = fold-roll-Expr Valued (value_step f) z in
    let there = fold-roll-Expr Valued (value_step g) z in
    let names = fold-roll-Expr (List Name) names_step z in
    here ∙ (layer f g y (subst (AgreeOn f g) names both) ∙ sym there)))
