-- Two primaries at the front of one list of tokens, compared: tokens, expressions in parentheses and calls.
use Rattle.std.proofs.Common.{◌≡◌, List, [], ◌∷◌, ◌++◌, length, Some, refl, sym, ap, ◌∙◌, subst, arith}
use Rattle.std.proofs.lemmas.List.{append_assoc, length-append}
use Rattle.std.proofs.lemmas.Option.{none-some}
use Rattle.prism_syntax.specs.declared.labels.Labels.{Labels}
use Rattle.prism_syntax.specs.declared.tokens.Kind.{Kind}
use Rattle.prism_syntax.specs.declared.tokens.Kind.TheVariants as k
use Rattle.prism_syntax.specs.declared.expressions.Expr.{Expr}
use Rattle.prism_syntax.specs.declared.expressions.Expr.TheVariants as e
use Rattle.prism_syntax.specs.declared.expressions.Func.{Func}
use Rattle.prism_syntax.specs.declared.precedence.Precedence.TheVariants as rule
use Rattle.prism_syntax.specs.Precedence.{atom, function}
use Rattle.prism_syntax.specs.Expressions.{Arguments, last, argument}
use Rattle.prism_expression.specs.Follow.{GoesOn}
use Rattle.prism_expression.proofs.RankLemmas.{false_true}
use Rattle.prism_expression.proofs.TextLemmas.{PrimaryText, leaf_text, paren_text, call_text}
use Rattle.prism_expression.proofs.TwoTextLemmas.{Compared, same, shorter, longer, Compares, ArgumentsCompare, heads, tails, some_same, unmoved, regroup}

-- `(` is no expression by itself
pub open_no_atom : (labels : Labels) (t : Kind) (x : Expr) → t ≡ k.Open → atom labels t ≡ Some x → ⊥
open_no_atom labels t x is found = none-some x (sym (ap (atom labels) is) ∙ found)

-- nor a function
pub open_no_function : (t : Kind) (f : Func) → t ≡ k.Open → function t ≡ Some f → ⊥
open_no_function t f is found = none-some f (sym (ap function is) ∙ found)

-- a token, and a primary
pub leaf_step : {labels : Labels} {t : Kind} {c : List Kind} {x y : Expr} (r s : List Kind) → atom labels t ≡ Some x → PrimaryText labels c y → t ∷ r ≡ c ++ s → Compared rule.Primary r s (x ≡ y)
leaf_step {labels = labels} r s found (leaf_text is) equal = same (tails equal) (some_same (sym found ∙ ap (atom labels) (heads equal) ∙ is))
leaf_step {labels = labels} {t = t} {x = x} r s found (paren_text inside) equal = absurd (open_no_atom labels t x (heads equal) found)
leaf_step r s found (call_text {a = a} {b = b} is fits first parts) equal =
    shorter (omega (arith, ap length (tails equal), length-append (a ++ (b ++ (k.Close ∷ []))) s)) (subst (GoesOn rule.Primary) (sym (tails equal)) refl)

-- an expression in parentheses, and a primary
pub paren_step : {labels : Labels} {c : List Kind} {x y : Expr} (a r s : List Kind) → Compares labels rule.Conditional a x → PrimaryText labels c y → k.Open ∷ ((a ++ (k.Close ∷ [])) ++ r) ≡ c ++ s
    → Compared rule.Primary r s (e.Paren x ≡ y)
paren_step {labels = labels} a r s compare (leaf_text {t = t} {x = x} found) equal = absurd (open_no_atom labels t x (sym (heads equal)) found)
paren_step a r s compare (paren_text {a = c} {x = y} inside) equal =
    let both = unmoved false_true false_true (compare c (k.Close ∷ r) (k.Close ∷ s) y inside (regroup a (k.Close ∷ []) r c (k.Close ∷ []) s (tails equal))) in
    same (tails both.0) (ap e.Paren both.1)
paren_step a r s compare (call_text {t = t} {f = f} is fits first parts) equal = absurd (open_no_function t f (sym (heads equal)) is)

-- the parts of a call, and what follows `)`
pub arguments_cut : (a b r : List Kind) → (a ++ (b ++ (k.Close ∷ []))) ++ r ≡ a ++ (b ++ (k.Close ∷ r))
arguments_cut a b r = append_assoc a (b ++ (k.Close ∷ [])) r ∙ ap (λ z. a ++ z) (append_assoc b (k.Close ∷ []) r)

-- neither `,` nor `)` goes on an expression
pub arguments_stop : {labels : Labels} {b : List Kind} {ys : List Expr} (r : List Kind) → Arguments labels b ys → GoesOn rule.Conditional (b ++ (k.Close ∷ r)) → ⊥
arguments_stop r last goes = false_true goes
arguments_stop r (argument first parts) goes = false_true goes

-- no parts, and the parts of a call
pub last_step : {labels : Labels} → ArgumentsCompare labels [] []
last_step b r s zs last equal = (tails equal, refl)
last_step b r s zs (argument first parts) equal = absurd (close_no_comma (heads equal))
  where
    close_no_comma : k.Close ≡ k.Comma → ⊥
    close_no_comma is = cc

-- parts, and the parts of a call
pub argument_step : {labels : Labels} {b : List Kind} {y : Expr} {ys : List Expr} (a : List Kind) → Arguments labels b ys → Compares labels rule.Conditional a y → ArgumentsCompare labels b ys
    → ArgumentsCompare labels (k.Comma ∷ (a ++ b)) (y ∷ ys)
argument_step a parts compare arguments_compare c r s zs last equal = absurd (comma_no_close (heads equal))
  where
    comma_no_close : k.Comma ≡ k.Close → ⊥
    comma_no_close is = cc
argument_step {b = b} {y = y} {ys = ys} a parts compare arguments_compare g r s zs (argument {a = c} {b = d} {y = z} {ys = us} first others) equal =
    let both = unmoved (arguments_stop r parts) (arguments_stop s others) (compare c (b ++ (k.Close ∷ r)) (d ++ (k.Close ∷ s)) z first (regroup a b (k.Close ∷ r) c d (k.Close ∷ s) (tails equal))) in
    let rest = arguments_compare d r s us others both.0 in
    (rest.0, cc (both.1, rest.1))

-- a call, and a primary
pub call_step : {labels : Labels} {t : Kind} {f : Func} {b c : List Kind} {x y : Expr} {ys : List Expr} (a r s : List Kind)
    → function t ≡ Some f → Arguments labels b ys → Compares labels rule.Conditional a x → ArgumentsCompare labels b ys → PrimaryText labels c y
    → t ∷ (k.Open ∷ ((a ++ (b ++ (k.Close ∷ []))) ++ r)) ≡ c ++ s → Compared rule.Primary r s (e.Call f (x ∷ ys) ≡ y)
call_step {b = b} a r s is parts compare arguments_compare (leaf_text found) equal =
    longer (omega (arith, ap length (tails equal), length-append (a ++ (b ++ (k.Close ∷ []))) r)) (subst (GoesOn rule.Primary) (tails equal) refl)
call_step {t = t} {f = f} a r s is parts compare arguments_compare (paren_text inside) equal = absurd (open_no_function t f (heads equal) is)
call_step {t = t} {f = f} {b = b} a r s is parts compare arguments_compare (call_text {t = u} {f = g} {a = c} {b = d} {x = y} {ys = zs} found fits first others) equal =
    let function_same : f ≡ g = some_same (sym is ∙ ap function (heads equal) ∙ found) in
    let both = unmoved (arguments_stop r parts) (arguments_stop s others) (compare c (b ++ (k.Close ∷ r)) (d ++ (k.Close ∷ s)) y first (sym (arguments_cut a b r) ∙ tails (tails equal) ∙ arguments_cut c d s)) in
    let rest = arguments_compare d r s zs others both.0 in
    same rest.0 (cc (function_same, both.1, rest.1))
