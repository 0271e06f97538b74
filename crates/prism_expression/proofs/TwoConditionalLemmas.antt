-- Two expressions at the front of one list of tokens, compared: implications and conditionals.
use Rattle.std.proofs.Common.{◌≡◌, ◌≤◌, List, ◌∷◌, ◌++◌, length, refl, sym, ap, ◌∙◌, subst, arith}
use Rattle.std.proofs.lemmas.List.{append_assoc, length-append}
use Rattle.prism_syntax.specs.declared.labels.Labels.{Labels}
use Rattle.prism_syntax.specs.declared.tokens.Kind.{Kind}
use Rattle.prism_syntax.specs.declared.tokens.Kind.TheVariants as k
use Rattle.prism_syntax.specs.declared.expressions.Expr.{Expr}
use Rattle.prism_syntax.specs.declared.expressions.Expr.TheVariants as e
use Rattle.prism_syntax.specs.declared.precedence.Precedence.TheVariants as rule
use Rattle.prism_syntax.specs.Expressions.{Derives}
use Rattle.prism_expression.specs.Follow.{GoesOn}
use Rattle.prism_expression.proofs.RankLemmas.{goes_on_less, false_true}
use Rattle.prism_expression.proofs.TextLemmas.{ConditionalText, plain_text, conditional_text}
use Rattle.prism_expression.proofs.TwoTextLemmas.{Compared, same, shorter, longer, Compares, tails, raised, flipped, unmoved}

-- an implication, and a conditional whose first part begins with it
query_after : {r z : List Kind} {S T : Type 0} → (s : List Kind) → length s ≤ length z → Compared rule.Implication r (k.Query ∷ z) S → Compared rule.Conditional r s T
query_after s within (same equal is) = shorter (omega (arith, ap length equal)) (subst (GoesOn rule.Conditional) (sym equal) refl)
query_after {r = r} s within (shorter less goes) = shorter (omega arith) (goes_on_less rule.Conditional rule.Implication r (omega arith) goes)
query_after s within (longer less goes) = absurd (false_true goes)

-- a conditional is its first part, `?` and the rest
pub query_cut : (a b c r : List Kind) → (a ++ (k.Query ∷ (b ++ (k.Colon ∷ c)))) ++ r ≡ a ++ (k.Query ∷ (b ++ (k.Colon ∷ (c ++ r))))
query_cut a b c r = append_assoc a (k.Query ∷ (b ++ (k.Colon ∷ c))) r ∙ ap (λ z. a ++ (k.Query ∷ z)) (append_assoc b (k.Colon ∷ c) r)

-- what follows a conditional is no longer than its second part and the rest
third_within : (b c r : List Kind) → length r ≤ length (b ++ (k.Colon ∷ (c ++ r)))
third_within b c r = omega (arith, length-append b (k.Colon ∷ (c ++ r)), length-append c r)

-- an implication, and an expression
pub plain_step : {labels : Labels} {a c : List Kind} {x y : Expr} (r s : List Kind) → Compares labels rule.Implication a x → Derives labels rule.Implication a x → ConditionalText labels c y → a ++ r ≡ c ++ s
    → Compared rule.Conditional r s (x ≡ y)
plain_step {c = c} {y = y} r s compare text (plain_text other) equal = raised {l = rule.Conditional} {m = rule.Implication} (omega arith) (λ is. is) (compare c r s y other equal)
plain_step r s compare text (conditional_text {a = a} {b = b} {c = c} {x = x} first second third) equal =
    query_after s (third_within b c s) (compare a r (k.Query ∷ (b ++ (k.Colon ∷ (c ++ s)))) x first (equal ∙ query_cut a b c s))

-- a conditional, and an expression
pub conditional_step : {labels : Labels} {d : List Kind} {x y z any : Expr} (a b c r s : List Kind)
    → Compares labels rule.Implication a x → Compares labels rule.Implication b y → Compares labels rule.Conditional c z → ConditionalText labels d any
    → (a ++ (k.Query ∷ (b ++ (k.Colon ∷ c)))) ++ r ≡ d ++ s → Compared rule.Conditional r s (e.If x y z ≡ any)
conditional_step {d = d} {any = any} a b c r s first_compare second_compare third_compare (plain_text other) equal =
    let answer = first_compare d (k.Query ∷ (b ++ (k.Colon ∷ (c ++ r)))) s any other (sym (query_cut a b c r) ∙ equal) in
    flipped {S = ⊥} (λ none. absurd none) (query_after r (third_within b c r) (flipped (λ is. is) answer))
conditional_step a b c r s first_compare second_compare third_compare (conditional_text {a = d} {b = f} {c = g} {x = u} {y = v} {z = w} first second third) equal =
    let first_same = unmoved false_true false_true (first_compare d (k.Query ∷ (b ++ (k.Colon ∷ (c ++ r)))) (k.Query ∷ (f ++ (k.Colon ∷ (g ++ s)))) u first (sym (query_cut a b c r) ∙ equal ∙ query_cut d f g s)) in
    let second_same = unmoved false_true false_true (second_compare f (k.Colon ∷ (c ++ r)) (k.Colon ∷ (g ++ s)) v second (tails first_same.0)) in
    raised {l = rule.Conditional} {m = rule.Conditional} (omega arith) (λ is. cc (first_same.1, second_same.1, is)) (third_compare g r s w third (tails second_same.0))
