-- The trees in which a chain has two or more arrows, and the operators of chains of arrows.
use Rattle.std.proofs.Common.{◌≡◌, Bool, true, false, List, [], ◌∷◌, ◌⊎◌, inl, inr, Some, refl, sym, ap, subst, ◌∙◌}
use Rattle.std.proofs.lemmas.Option.{none-some}
use Rattle.prism_syntax.specs.declared.labels.Labels.{Labels}
use Rattle.prism_syntax.specs.declared.labels.Labels.TheVariants.{Allowed, Refused}
use Rattle.prism_syntax.specs.declared.tokens.Kind.{Kind}
use Rattle.prism_syntax.specs.declared.tokens.Kind.TheVariants as k
use Rattle.prism_syntax.specs.declared.expressions.Expr.{Expr, out-Expr}
use Rattle.prism_syntax.specs.declared.expressions.Expr.TheVariants as e
use Rattle.prism_syntax.specs.declared.expressions.Expr.TheViews.{outs-Whole, outs-Real, outs-Truth, outs-Name, outs-Quoted, outs-Paren, outs-Call, outs-Not, outs-Minus, outs-Level, outs-If}
use Rattle.prism_syntax.specs.declared.expressions.Expr.TheOpen.{Expr-F}
use Rattle.prism_syntax.specs.declared.expressions.Expr.TheOpen as top
use Rattle.prism_syntax.specs.declared.expressions.Func.{Func}
use Rattle.prism_syntax.specs.declared.expressions.Op.{Op}
use Rattle.prism_syntax.specs.declared.expressions.Op.TheVariants as o
use Rattle.prism_syntax.specs.declared.precedence.Precedence.{Precedence}
use Rattle.prism_syntax.specs.declared.precedence.Precedence.TheVariants as rule
use Rattle.prism_syntax.specs.Precedence.{operator, signed, atom}
use Rattle.prism_syntax.specs.Expressions.{level}
use Rattle.prism_expression.proofs.RankLemmas.{SignOf, bang, dash}
use Rattle.prism_expression.proofs.TwoTextLemmas.{some_same}
use Rattle.prism_limits.specs.Arrows.{HasLongChain, OneHasLongChain, arrows, in_operand, in_argument, in_paren, in_not, in_minus, in_condition, in_consequence, in_alternative, in_first, in_later}

-- the first two operators are arrows
abbrev pub BeginsWithTwo : List Op → Type 0
BeginsWithTwo os = (more : List Op) × (os ≡ o.Imp ∷ (o.Imp ∷ more))

-- where a tree with this top has a long chain
abbrev pub TopHas : Expr-F Expr → Type 0
TopHas (top.Level xs os) = OneHasLongChain xs ⊎ BeginsWithTwo os
TopHas (top.Call f xs) = OneHasLongChain xs
TopHas (top.Paren x) = HasLongChain x
TopHas (top.Not x) = HasLongChain x
TopHas (top.Minus x) = HasLongChain x
TopHas (top.If x y z) = HasLongChain x ⊎ (HasLongChain y ⊎ HasLongChain z)
TopHas _ = ⊥

-- where a tree has one
top_has : {x : Expr} → HasLongChain x → TopHas (out-Expr x)
top_has (arrows xs os) = subst TopHas (sym (outs-Level xs (o.Imp ∷ (o.Imp ∷ os)))) (inr (os, refl))
top_has (in_operand xs os one) = subst TopHas (sym (outs-Level xs os)) (inl one)
top_has (in_argument f xs one) = subst TopHas (sym (outs-Call f xs)) one
top_has (in_paren x long) = subst TopHas (sym (outs-Paren x)) long
top_has (in_not x long) = subst TopHas (sym (outs-Not x)) long
top_has (in_minus x long) = subst TopHas (sym (outs-Minus x)) long
top_has (in_condition x y z long) = subst TopHas (sym (outs-If x y z)) (inl long)
top_has (in_consequence x y z long) = subst TopHas (sym (outs-If x y z)) (inr (inl long))
top_has (in_alternative x y z long) = subst TopHas (sym (outs-If x y z)) (inr (inr long))

-- so it is with each kind of tree
pub level_has : {xs : List Expr} {os : List Op} → HasLongChain (e.Level xs os) → OneHasLongChain xs ⊎ BeginsWithTwo os
level_has {xs = xs} {os = os} long = subst TopHas (outs-Level xs os) (top_has long)

pub call_has : {f : Func} {xs : List Expr} → HasLongChain (e.Call f xs) → OneHasLongChain xs
call_has {f = f} {xs = xs} long = subst TopHas (outs-Call f xs) (top_has long)

pub paren_has : {x : Expr} → HasLongChain (e.Paren x) → HasLongChain x
paren_has {x = x} long = subst TopHas (outs-Paren x) (top_has long)

pub choice_has : {x y z : Expr} → HasLongChain (e.If x y z) → HasLongChain x ⊎ (HasLongChain y ⊎ HasLongChain z)
choice_has {x = x} {y = y} {z = z} long = subst TopHas (outs-If x y z) (top_has long)

-- where one of some trees has it
abbrev pub HasFirstOrLater : List Expr → Type 0
HasFirstOrLater [] = ⊥
HasFirstOrLater (x ∷ xs) = HasLongChain x ⊎ OneHasLongChain xs

pub first_or_later : {xs : List Expr} → OneHasLongChain xs → HasFirstOrLater xs
first_or_later (in_first x xs long) = inl long
first_or_later (in_later x xs one) = inr one

-- an operand of a chain with links has it
pub level_first : {x : Expr} (ys : List Expr) (os : List Op) → HasLongChain x → HasLongChain (level x ys os)
level_first [] os long = long
level_first {x = x} (y ∷ ys) os long = in_operand (x ∷ (y ∷ ys)) os (in_first x (y ∷ ys) long)

-- what a sign stands before has it
pub sign_has : {l : Precedence} {t : Kind} {x : Expr} → SignOf l t → HasLongChain (signed l x) → HasLongChain x
sign_has {x = x} bang long = subst TopHas (outs-Not x) (top_has long)
sign_has {x = x} dash long = subst TopHas (outs-Minus x) (top_has long)

-- and so has what is made of it
pub sign_long : {l : Precedence} {t : Kind} {x : Expr} → SignOf l t → HasLongChain x → HasLongChain (signed l x)
sign_long {x = x} bang long = in_not x long
sign_long {x = x} dash long = in_minus x long

-- a tree of one token has none
pub leaf_has : (q : Labels) (t : Kind) (x : Expr) → atom q t ≡ Some x → HasLongChain x → ⊥
leaf_has Allowed (k.Whole value) x found long = subst TopHas (ap out-Expr (some_same (sym found)) ∙ outs-Whole value) (top_has long)
leaf_has Allowed (k.Real value) x found long = subst TopHas (ap out-Expr (some_same (sym found)) ∙ outs-Real value) (top_has long)
leaf_has Allowed k.True x found long = subst TopHas (ap out-Expr (some_same (sym found)) ∙ outs-Truth true) (top_has long)
leaf_has Allowed k.False x found long = subst TopHas (ap out-Expr (some_same (sym found)) ∙ outs-Truth false) (top_has long)
leaf_has Allowed (k.Name text) x found long = subst TopHas (ap out-Expr (some_same (sym found)) ∙ outs-Name text) (top_has long)
leaf_has Allowed (k.Quoted text) x found long = subst TopHas (ap out-Expr (some_same (sym found)) ∙ outs-Quoted text) (top_has long)
leaf_has Allowed _ x found long = absurd (none-some x found)
leaf_has Refused (k.Whole value) x found long = subst TopHas (ap out-Expr (some_same (sym found)) ∙ outs-Whole value) (top_has long)
leaf_has Refused (k.Real value) x found long = subst TopHas (ap out-Expr (some_same (sym found)) ∙ outs-Real value) (top_has long)
leaf_has Refused k.True x found long = subst TopHas (ap out-Expr (some_same (sym found)) ∙ outs-Truth true) (top_has long)
leaf_has Refused k.False x found long = subst TopHas (ap out-Expr (some_same (sym found)) ∙ outs-Truth false) (top_has long)
leaf_has Refused (k.Name text) x found long = subst TopHas (ap out-Expr (some_same (sym found)) ∙ outs-Name text) (top_has long)
leaf_has Refused _ x found long = absurd (none-some x found)

-- the operator of an implication is the arrow
pub implication_operator : (t : Kind) (op : Op) → operator rule.Implication t ≡ Some op → op ≡ o.Imp
implication_operator k.Implies op found = some_same (sym found)
implication_operator _ op found = absurd (none-some op found)

-- the arrow is an operator of implications alone
pub arrow_line : (l : Precedence) (op : Op) → operator l k.Implies ≡ Some op → l ≡ rule.Implication
arrow_line rule.Implication op found = refl
arrow_line rule.Conditional op found = absurd (none-some op found)
arrow_line rule.Equivalence op found = absurd (none-some op found)
arrow_line rule.Disjunction op found = absurd (none-some op found)
arrow_line rule.Conjunction op found = absurd (none-some op found)
arrow_line rule.Negation op found = absurd (none-some op found)
arrow_line rule.Equality op found = absurd (none-some op found)
arrow_line rule.Relation op found = absurd (none-some op found)
arrow_line rule.Sum op found = absurd (none-some op found)
arrow_line rule.Product op found = absurd (none-some op found)
arrow_line rule.Unary op found = absurd (none-some op found)
arrow_line rule.Primary op found = absurd (none-some op found)

-- and no other token stands for it
pub arrow_token : (l : Precedence) (t : Kind) → operator l t ≡ Some o.Imp → t ≡ k.Implies
arrow_token rule.Implication k.Implies found = refl
arrow_token rule.Implication _ found = absurd (none-some o.Imp found)
arrow_token rule.Conditional _ found = absurd (none-some o.Imp found)
arrow_token rule.Equivalence k.Equivalent found = absurd (cc)
arrow_token rule.Equivalence _ found = absurd (none-some o.Imp found)
arrow_token rule.Disjunction k.Bar found = absurd (cc)
arrow_token rule.Disjunction _ found = absurd (none-some o.Imp found)
arrow_token rule.Conjunction k.Ampersand found = absurd (cc)
arrow_token rule.Conjunction _ found = absurd (none-some o.Imp found)
arrow_token rule.Negation _ found = absurd (none-some o.Imp found)
arrow_token rule.Equality k.Equal found = absurd (cc)
arrow_token rule.Equality k.NotEqual found = absurd (cc)
arrow_token rule.Equality _ found = absurd (none-some o.Imp found)
arrow_token rule.Relation k.Less found = absurd (cc)
arrow_token rule.Relation k.LessEqual found = absurd (cc)
arrow_token rule.Relation k.Greater found = absurd (cc)
arrow_token rule.Relation k.GreaterEqual found = absurd (cc)
arrow_token rule.Relation _ found = absurd (none-some o.Imp found)
arrow_token rule.Sum k.Plus found = absurd (cc)
arrow_token rule.Sum k.Dash found = absurd (cc)
arrow_token rule.Sum _ found = absurd (none-some o.Imp found)
arrow_token rule.Product k.Star found = absurd (cc)
arrow_token rule.Product k.Slash found = absurd (cc)
arrow_token rule.Product _ found = absurd (none-some o.Imp found)
arrow_token rule.Unary _ found = absurd (none-some o.Imp found)
arrow_token rule.Primary _ found = absurd (none-some o.Imp found)
