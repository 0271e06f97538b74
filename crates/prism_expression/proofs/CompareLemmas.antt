-- Two texts of a level at the front of one list of tokens: they are one text with one tree, or the longer goes on after the shorter.
use Rattle.std.proofs.Common.{◌≡◌, ◌≤◌, List, [], ◌∷◌, ◌++◌, length, ◌⊎◌, inl, inr, refl, sym, ap, ◌∙◌, arith}
use Rattle.std.proofs.lemmas.List.{length-append, append_cancel_right}
use Rattle.prism_syntax.specs.declared.labels.Labels.{Labels}
use Rattle.prism_syntax.specs.declared.tokens.Kind.{Kind}
use Rattle.prism_syntax.specs.declared.tokens.Kind.TheVariants as k
use Rattle.prism_syntax.specs.declared.expressions.Expr.{Expr}
use Rattle.prism_syntax.specs.declared.expressions.Op.{Op}
use Rattle.prism_syntax.specs.declared.precedence.Precedence.{Precedence}
use Rattle.prism_syntax.specs.Expressions.{Derives, chain, bare, sign, plain, conditional, leaf, paren, call, ChainTail, end, link, Arguments, last, argument}
use Rattle.prism_expression.specs.Follow.{Ends, GoesOn}
use Rattle.prism_expression.proofs.RankLemmas.{sign_prefix, false_true}
use Rattle.prism_expression.proofs.TextLemmas.{chain_texts, prefix_texts, conditional_texts, primary_texts}
use Rattle.prism_expression.proofs.TwoTextLemmas.{Compared, same, shorter, longer, Compares, unmoved, TailsCompare, ArgumentsCompare, chain_step, end_step, link_step, bare_step, sign_step}
use Rattle.prism_expression.proofs.TwoConditionalLemmas.{plain_step, conditional_step}
use Rattle.prism_expression.proofs.TwoPrimaryLemmas.{leaf_step, paren_step, last_step, argument_step, call_step}

mutual
  -- a text compares with each text of its level
  pub compares : {labels : Labels} {l : Precedence} {a : List Kind} {x : Expr} → Derives labels l a x → Compares labels l a x
  compares (chain {a = a} is_true operand links) c r s y other equal = chain_step a r s is_true links (compares operand) (tails_compare links) (chain_texts is_true other) equal
  compares (bare is_true operand) c r s y other equal = bare_step r s is_true operand (compares operand) (prefix_texts is_true other) equal
  compares {l = l} (sign {t = t} {a = a} is_true operand) c r s y other equal = sign_step a r s is_true (compares operand) (prefix_texts (sign_prefix l t is_true) other) equal
  compares (plain first) c r s y other equal = plain_step r s (compares first) first (conditional_texts other) equal
  compares (conditional {a = a} {b = b} {c = c} first second third) d r s y other equal = conditional_step a b c r s (compares first) (compares second) (compares third) (conditional_texts other) equal
  compares (leaf found) c r s y other equal = leaf_step r s found (primary_texts other) equal
  compares (paren {a = a} inside) c r s y other equal = paren_step a r s (compares inside) (primary_texts other) equal
  compares (call {a = a} found fits first parts) c r s y other equal = call_step a r s found parts (compares first) (arguments_compare parts) (primary_texts other) equal

  -- links compare with the links of their level
  pub tails_compare : {labels : Labels} {l : Precedence} {a : List Kind} {ys : List Expr} {os : List Op} → ChainTail labels l a ys os → TailsCompare labels l a ys os
  tails_compare end = end_step
  tails_compare (link {a = a} found operand links) = link_step a found links (compares operand) (tails_compare links)

  -- parts of a call compare with the parts of a call
  pub arguments_compare : {labels : Labels} {a : List Kind} {ys : List Expr} → Arguments labels a ys → ArgumentsCompare labels a ys
  arguments_compare last = last_step
  arguments_compare (argument {a = a} first parts) = argument_step a parts (compares first) (arguments_compare parts)

-- no text is empty
pub nonempty : {labels : Labels} {l : Precedence} {ks : List Kind} {x : Expr} → Derives labels l ks x → length ks ≡ 0 → ⊥
nonempty (chain {a = a} {b = b} is_true operand links) none = nonempty operand (omega (arith, length-append a b))
nonempty (bare is_true operand) none = nonempty operand none
nonempty (sign is_true operand) none = omega arith
nonempty (plain first) none = nonempty first none
nonempty (conditional {a = a} {b = b} {c = c} first second third) none = nonempty first (omega (arith, length-append a (k.Query ∷ (b ++ (k.Colon ∷ c)))))
nonempty (leaf found) none = omega arith
nonempty (paren inside) none = omega arith
nonempty (call found fits first parts) none = omega arith

-- two texts at the front of one list are one text with one tree, or the longer goes on after the shorter
pub compared : {labels : Labels} {l : Precedence} {a b : List Kind} {x y : Expr} (r s : List Kind) → Derives labels l a x → Derives labels l b y → a ++ r ≡ b ++ s → length a ≤ length b
    → ((a ≡ b) × (r ≡ s) × (x ≡ y)) ⊎ GoesOn l r
compared {l = l} {a = a} {b = b} {x = x} {y = y} r s first second equal within = told l r s a b (x ≡ y) equal within (compares first b r s y second equal)
  where
    told : (m : Precedence) (t u c d : List Kind) (S : Type 0) → c ++ t ≡ d ++ u → length c ≤ length d → Compared m t u S → ((c ≡ d) × (t ≡ u) × S) ⊎ GoesOn m t
    told m t u c d S fronts below (same rest is) = inl (append_cancel_right c d u (ap (λ z. c ++ z) (sym rest) ∙ fronts), rest, is)
    told m t u c d S fronts below (shorter less goes) = inr goes
    told m t u c d S fronts below (longer less goes) = absurd (omega (arith, ap length fronts, length-append c t, length-append d u))

-- a list of tokens has at most one tree in each level
pub one_tree : {labels : Labels} {l : Precedence} {ks : List Kind} {x y : Expr} → Derives labels l ks x → Derives labels l ks y → x ≡ y
one_tree {l = l} {ks = ks} {x = x} {y = y} first second = told l (x ≡ y) (compares first ks [] [] y second refl)
  where
    told : (m : Precedence) (S : Type 0) → Compared m [] [] S → S
    told m S (same rest is) = is
    told m S (shorter less goes) = absurd goes
    told m S (longer less goes) = absurd goes

-- what ends a text does not go on it
pub ends_stop : (l : Precedence) (ts : List Kind) → Ends l ts → GoesOn l ts → ⊥
ends_stop l [] ends goes = goes
ends_stop l (t ∷ ts) ends goes = false_true (sym ends ∙ goes)

-- two texts at the front of one list, each before a token that does not go on it, are one text with one tree
pub agreed : {labels : Labels} {l : Precedence} {a b r s : List Kind} {x y : Expr} → Derives labels l a x → Derives labels l b y
    → a ++ r ≡ b ++ s → Ends l r → Ends l s → (a ≡ b) × (r ≡ s) × (x ≡ y)
agreed {l = l} {a = a} {b = b} {r = r} {s = s} {x = x} {y = y} first second equal ends stops =
    told (unmoved (ends_stop l r ends) (ends_stop l s stops) (compares first b r s y second equal))
  where
    told : (r ≡ s) × (x ≡ y) → (a ≡ b) × (r ≡ s) × (x ≡ y)
    told both = (append_cancel_right a b s (ap (λ z. a ++ z) (sym both.0) ∙ equal), both.0, both.1)
