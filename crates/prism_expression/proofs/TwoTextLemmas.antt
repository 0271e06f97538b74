-- Two texts of a level at the front of one list of tokens, compared by what follows each: one step for each shape of level.
use Rattle.std.proofs.Common.{◌≡◌, ◌≤◌, ◌<◌, true, List, [], ◌∷◌, ◌++◌, length, Some, refl, sym, ap, ◌∙◌, subst, arith}
use Rattle.std.proofs.lemmas.List.{append_assoc, length-append}
use Rattle.prism_syntax.specs.declared.labels.Labels.{Labels}
use Rattle.prism_syntax.specs.declared.tokens.Kind.{Kind}
use Rattle.prism_syntax.specs.declared.tokens.Kind.TheVariants as k
use Rattle.prism_syntax.specs.declared.expressions.Expr.{Expr}
use Rattle.prism_syntax.specs.declared.expressions.Op.{Op}
use Rattle.prism_syntax.specs.declared.precedence.Precedence.{Precedence}
use Rattle.prism_syntax.specs.Precedence.{inner, is_chain, is_prefix, operator, is_sign, signed, atom, function}
use Rattle.prism_syntax.specs.Expressions.{Derives, chain, bare, sign, plain, conditional, leaf, paren, call, ChainTail, end, link, Arguments, level}
use Rattle.prism_expression.specs.Follow.{rank, GoesOn}
use Rattle.prism_expression.proofs.RankLemmas.{inner_binds, prefix_binds, operator_chain, operator_goes_on, operand_stops, goes_on_less, sign_prefix, sign_no_atom, sign_no_function, sign_no_open, sign_of_one}
use Rattle.prism_expression.proofs.TextLemmas.{ChainText, chain_text, PrefixText, bare_text, sign_text}

-- what follows two texts of a level is the same, or the longer text goes on after the shorter
pub data Compared (l : Precedence) (r s : List Kind) (Same : Type 0) : Type 0 where
  same : r ≡ s → Same → Compared l r s Same
  shorter : length s < length r → GoesOn l r → Compared l r s Same
  longer : length r < length s → GoesOn l s → Compared l r s Same

-- a text compares with each text of its level at the front of the same tokens
abbrev pub Compares : Labels → Precedence → List Kind → Expr → Type 0
Compares labels l a x = (b r s : List Kind) (y : Expr) → Derives labels l b y → a ++ r ≡ b ++ s → Compared l r s (x ≡ y)

-- links compare with the links of their level
abbrev pub TailsCompare : Labels → Precedence → List Kind → List Expr → List Op → Type 0
TailsCompare labels l a ys os = (b r s : List Kind) (zs : List Expr) (ps : List Op) → ChainTail labels l b zs ps → a ++ r ≡ b ++ s → Compared l r s ((ys ≡ zs) × (os ≡ ps))

-- the parts of a call up to `)` are the parts of each such call
abbrev pub ArgumentsCompare : Labels → List Kind → List Expr → Type 0
ArgumentsCompare labels a ys = (b r s : List Kind) (zs : List Expr) → Arguments labels b zs → a ++ (k.Close ∷ r) ≡ b ++ (k.Close ∷ s) → (r ≡ s) × (ys ≡ zs)

-- equal lists have equal first elements
pub heads : {t u : Kind} {a b : List Kind} → t ∷ a ≡ u ∷ b → t ≡ u
heads equal = cc

-- and equal rests
pub tails : {t u : Kind} {a b : List Kind} → t ∷ a ≡ u ∷ b → a ≡ b
tails equal = cc

-- equal values in `Some` are equal
pub some_same : {A : Type 0} {x y : A} → Some x ≡ Some y → x ≡ y
some_same equal = cc

-- an answer tells what its equation tells, on a level that binds no more
pub raised : {l m : Precedence} {r s : List Kind} {S T : Type 0} → rank l ≤ rank m → (S → T) → Compared m r s S → Compared l r s T
raised below tell (same equal is) = same equal (tell is)
raised {l = l} {m = m} {r = r} below tell (shorter less goes) = shorter less (goes_on_less l m r below goes)
raised {l = l} {m = m} {s = s} below tell (longer less goes) = longer less (goes_on_less l m s below goes)

-- an answer the other way round
pub flipped : {l : Precedence} {r s : List Kind} {S T : Type 0} → (S → T) → Compared l r s S → Compared l s r T
flipped tell (same equal is) = same (sym equal) (tell is)
flipped tell (shorter less goes) = longer less goes
flipped tell (longer less goes) = shorter less goes

-- where neither text can go on, they are the same
pub unmoved : {l : Precedence} {r s : List Kind} {S : Type 0} → (GoesOn l r → ⊥) → (GoesOn l s → ⊥) → Compared l r s S → (r ≡ s) × S
unmoved first second (same equal is) = (equal, is)
unmoved first second (shorter less goes) = absurd (first goes)
unmoved first second (longer less goes) = absurd (second goes)

-- two texts before the same tokens, each regrouped
pub regroup : (a b r c d s : List Kind) → (a ++ b) ++ r ≡ (c ++ d) ++ s → a ++ (b ++ r) ≡ c ++ (d ++ s)
regroup a b r c d s equal = sym (append_assoc a b r) ∙ equal ∙ append_assoc c d s

-- an operand goes on beyond its chain only where no link follows it
pub after_operand : {labels : Labels} {l : Precedence} {b : List Kind} {ys : List Expr} {os : List Op} (r : List Kind) → is_chain l ≡ true → ChainTail labels l b ys os → GoesOn (inner l) (b ++ r)
    → (b ++ r ≡ r) × GoesOn l r
after_operand {l = l} r is_true end goes = (refl, goes_on_less l (inner l) r (inner_binds l) goes)
after_operand {l = l} r is_true (link {t = t} {o = o} found operand links) goes = absurd (operand_stops l t o is_true found goes)

-- two operands of a chain, and the links after each
operands_step : {labels : Labels} {l : Precedence} {b c : List Kind} {x y : Expr} {ys zs : List Expr} {os ps : List Op} (r s : List Kind)
    → is_chain l ≡ true → ChainTail labels l b ys os → ChainTail labels l c zs ps → TailsCompare labels l b ys os → Compared (inner l) (b ++ r) (c ++ s) (x ≡ y)
    → Compared l r s ((x ≡ y) × (ys ≡ zs) × (os ≡ ps))
operands_step {l = l} {c = c} {zs = zs} {ps = ps} r s is_true first second compare (same equal is) =
    raised {l = l} {m = l} (omega arith) (λ others. (is, others.0, others.1)) (compare c r s zs ps second equal)
operands_step {c = c} r s is_true first second compare (shorter less goes) =
    let stop = after_operand r is_true first goes in
    shorter (omega (arith, ap length stop.0, length-append c s)) stop.1
operands_step {b = b} r s is_true first second compare (longer less goes) =
    let stop = after_operand s is_true second goes in
    longer (omega (arith, ap length stop.0, length-append b r)) stop.1

-- equal parts make equal levels
level_same : {x y : Expr} {ys zs : List Expr} {os ps : List Op} → (x ≡ y) × (ys ≡ zs) × (os ≡ ps) → level x ys os ≡ level y zs ps
level_same {x = x} {y = y} {ys = ys} {zs = zs} {os = os} {ps = ps} all =
    ap (λ z. level z ys os) all.0 ∙ ap (λ z. level y z os) all.1 ∙ ap (λ z. level y zs z) all.2

-- two texts of a chain
pub chain_step : {labels : Labels} {l : Precedence} {b c : List Kind} {x y : Expr} {ys : List Expr} {os : List Op} (a r s : List Kind)
    → is_chain l ≡ true → ChainTail labels l b ys os → Compares labels (inner l) a x → TailsCompare labels l b ys os → ChainText labels l c y → (a ++ b) ++ r ≡ c ++ s
    → Compared l r s (level x ys os ≡ y)
chain_step {l = l} {b = b} a r s is_true links compare tails_compare (chain_text {a = c} {b = d} {x = y} operand others) equal =
    let answer = compare c (b ++ r) (d ++ s) y operand (regroup a b r c d s equal) in
    raised {l = l} {m = l} (omega arith) level_same (operands_step r s is_true links others tails_compare answer)

-- no links, and the links of the level
pub end_step : {labels : Labels} {l : Precedence} → TailsCompare labels l [] [] []
end_step b r s zs ps end equal = same equal (refl, refl)
end_step {l = l} b r s zs ps (link {t = t} {o = o} {a = c} {b = d} found operand links) equal =
    shorter (omega (arith, ap length equal, length-append (c ++ d) s)) (subst (GoesOn l) (sym equal) (operator_goes_on l t o found))

-- links, and the links of the level
pub link_step : {labels : Labels} {l : Precedence} {t : Kind} {o : Op} {b : List Kind} {y : Expr} {ys : List Expr} {os : List Op} (a : List Kind)
    → operator l t ≡ Some o → ChainTail labels l b ys os → Compares labels (inner l) a y → TailsCompare labels l b ys os → TailsCompare labels l (t ∷ (a ++ b)) (y ∷ ys) (o ∷ os)
link_step {l = l} {t = t} {o = o} {b = b} a found links compare tails_compare c r s zs ps end equal =
    longer (omega (arith, ap length equal, length-append (a ++ b) r)) (subst (GoesOn l) equal (operator_goes_on l t o found))
link_step {l = l} {t = t} {o = o} {b = b} a found links compare tails_compare f r s zs ps (link {t = u} {o = p} {a = c} {b = d} {y = z} is operand others) equal =
    let answer = compare c (b ++ r) (d ++ s) z operand (regroup a b r c d s (tails equal)) in
    let op : o ≡ p = some_same (sym found ∙ ap (operator l) (heads equal) ∙ is) in
    raised {l = l} {m = l} (omega arith) (λ all. (cc (all.0, all.1), cc (op, all.2))) (operands_step r s (operator_chain l t o found) links others tails_compare answer)

-- no text of a level that binds more begins with the sign of a level
pub no_sign_first : {labels : Labels} {l : Precedence} {a : List Kind} {x : Expr} → Derives labels l a x → (m : Precedence) (t : Kind) (r z : List Kind) → is_sign m t ≡ true → rank m < rank l → a ++ r ≡ t ∷ z → ⊥
no_sign_first {l = l} (chain {a = a} {b = b} is_true operand links) m t r z is_sign below equal =
    no_sign_first operand m t (b ++ r) z is_sign (omega (arith, inner_binds l)) (sym (append_assoc a b r) ∙ equal)
no_sign_first {l = l} (bare is_true operand) m t r z is_one below equal = no_sign_first operand m t r z is_one (omega (arith, inner_binds l)) equal
no_sign_first {l = l} (sign {t = u} is_true operand) m t r z is_one below equal =
    let same_rank = sign_of_one m l t is_one (subst (λ v. is_sign l v ≡ true) (heads equal) is_true) in omega arith
no_sign_first (plain first) m t r z is_one below equal = omega arith
no_sign_first (conditional first second third) m t r z is_one below equal = omega arith
no_sign_first {labels = labels} (leaf {x = x} found) m t r z is_one below equal = sign_no_atom labels m t x is_one (ap (atom labels) (sym (heads equal)) ∙ found)
no_sign_first (paren inside) m t r z is_one below equal = sign_no_open m t is_one (sym (heads equal))
no_sign_first (call {f = f} found fits first parts) m t r z is_one below equal = sign_no_function m t f is_one (ap function (sym (heads equal)) ∙ found)

-- an operand of signs, and a text of the level
pub bare_step : {labels : Labels} {l : Precedence} {a c : List Kind} {x y : Expr} (r s : List Kind) → is_prefix l ≡ true → Derives labels (inner l) a x → Compares labels (inner l) a x → PrefixText labels l c y
    → a ++ r ≡ c ++ s → Compared l r s (x ≡ y)
bare_step {l = l} {c = c} {y = y} r s is_true text compare (bare_text other) equal = raised {l = l} {m = inner l} (inner_binds l) (λ is. is) (compare c r s y other equal)
bare_step {l = l} r s is_true text compare (sign_text {t = t} {a = c} is_one other) equal =
    absurd (no_sign_first text l t r (c ++ s) is_one (prefix_binds l is_true) equal)

-- a sign before a text, and a text of the level
pub sign_step : {labels : Labels} {l : Precedence} {t : Kind} {c : List Kind} {x y : Expr} (a r s : List Kind) → is_sign l t ≡ true → Compares labels l a x → PrefixText labels l c y
    → t ∷ (a ++ r) ≡ c ++ s → Compared l r s (signed l x ≡ y)
sign_step {l = l} {t = t} a r s is_true compare (bare_text other) equal =
    absurd (no_sign_first other l t s (a ++ r) is_true (prefix_binds l (sign_prefix l t is_true)) (sym equal))
sign_step {l = l} a r s is_true compare (sign_text {a = c} {x = y} is_one other) equal =
    raised {l = l} {m = l} (omega arith) (ap (signed l)) (compare c r s y other (tails equal))
