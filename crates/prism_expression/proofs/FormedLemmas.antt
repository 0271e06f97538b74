-- The tree of a text of well-formed tokens is well formed.
use Rattle.std.proofs.Common.{◌≡◌, suc, true, List, [], ◌∷◌, ◌++◌, length, Some, refl, sym, ap, ◌∙◌, subst}
use Rattle.std.specs.Prelude.{All}
use Rattle.std.proofs.lemmas.List.{append_assoc}
use Rattle.std.proofs.lemmas.List.Elements.{All-nil, All-cons, All-head, All-tail}
use Rattle.std.proofs.lemmas.Option.{none-some}
use Rattle.prism_syntax.specs.declared.labels.Labels.{Labels}
use Rattle.prism_syntax.specs.declared.labels.Labels.TheVariants.{Allowed, Refused}
use Rattle.prism_syntax.specs.declared.tokens.Kind.{Kind}
use Rattle.prism_syntax.specs.declared.tokens.Kind.TheVariants as k
use Rattle.prism_syntax.specs.declared.expressions.Expr.{Expr}
use Rattle.prism_syntax.specs.declared.expressions.Op.{Op}
use Rattle.prism_syntax.specs.declared.precedence.Precedence.{Precedence}
use Rattle.prism_syntax.specs.declared.precedence.Precedence.TheVariants as rule
use Rattle.prism_syntax.specs.Precedence.{inner, operator, is_sign, signed, atom}
use Rattle.prism_syntax.specs.Expressions.{Derives, chain, bare, sign, plain, conditional, leaf, paren, call, ChainTail, end, link, Arguments, last, argument, level}
use Rattle.prism_syntax.specs.WellFormed.{IsFormedKind, IsOperatorOf, IsFormed, AreFormed}
use Rattle.prism_expression.proofs.RankLemmas.{SignOf, bang, dash, sign_of}
use Rattle.prism_expression.proofs.TwoTextLemmas.{some_same}

-- each element of a part of a list passes what all of the list pass
pub all_front : {X : Type 0} (P : X → Type 0) (xs ys : List X) → All P (xs ++ ys) → All P xs
all_front P [] ys all = All-nil P
all_front P (x ∷ xs) ys all = All-cons P x xs (All-head P x (xs ++ ys) all) (all_front P xs ys (All-tail P x (xs ++ ys) all))

-- and each element of the rest
pub all_rest : {X : Type 0} (P : X → Type 0) (xs ys : List X) → All P (xs ++ ys) → All P ys
all_rest P [] ys all = all
all_rest P (x ∷ xs) ys all = all_rest P xs ys (All-tail P x (xs ++ ys) all)

-- no chain with two arrows stands in the tokens
abbrev pub HasNoTwoArrows : Labels → List Kind → Type 0
HasNoTwoArrows labels ks = (before middle after : List Kind) (tree : Expr)
    → ks ≡ before ++ (k.Implies ∷ (middle ++ (k.Implies ∷ after))) → Derives labels rule.Equivalence middle tree → ⊥

-- nor in a front of them
arrows_front : {labels : Labels} (a b : List Kind) → HasNoTwoArrows labels (a ++ b) → HasNoTwoArrows labels a
arrows_front a b none before middle after tree cut text =
    none before middle (after ++ b) tree
    (ap (λ z. z ++ b) cut ∙ append_assoc before (k.Implies ∷ (middle ++ (k.Implies ∷ after))) b ∙ ap (λ z. before ++ (k.Implies ∷ z)) (append_assoc middle (k.Implies ∷ after) b))
    text

-- nor in the rest
arrows_rest : {labels : Labels} (a b : List Kind) → HasNoTwoArrows labels (a ++ b) → HasNoTwoArrows labels b
arrows_rest a b none before middle after tree cut text =
    none (a ++ before) middle after tree (ap (λ z. a ++ z) cut ∙ sym (append_assoc a before (k.Implies ∷ (middle ++ (k.Implies ∷ after))))) text

-- well-formed tokens without two arrows in a chain
record Fit (labels : Labels) (ks : List Kind) : Type 0 where
  kinds : All IsFormedKind ks
  arrows : HasNoTwoArrows labels ks

-- a front of such tokens is such
fit_front : {labels : Labels} (a b : List Kind) → Fit labels (a ++ b) → Fit labels a
fit_front a b fit = record { kinds = all_front IsFormedKind a b fit.kinds; arrows = arrows_front a b fit.arrows }

-- and so is the rest
fit_rest : {labels : Labels} (a b : List Kind) → Fit labels (a ++ b) → Fit labels b
fit_rest a b fit = record { kinds = all_rest IsFormedKind a b fit.kinds; arrows = arrows_rest a b fit.arrows }

-- and so is what follows the first token
fit_tail : {labels : Labels} (t : Kind) (b : List Kind) → Fit labels (t ∷ b) → Fit labels b
fit_tail t b fit = fit_rest (t ∷ []) b fit

-- the operator of an implication is the arrow
arrow_of : (t : Kind) (o : Op) → operator rule.Implication t ≡ Some o → t ≡ k.Implies
arrow_of k.Implies o found = refl
arrow_of _ o found = absurd (none-some o found)

-- each operator of links is one of the level
operators_of : {labels : Labels} {l : Precedence} {b : List Kind} {ys : List Expr} {os : List Op} → ChainTail labels l b ys os → All (IsOperatorOf l) os
operators_of {l = l} end = All-nil (IsOperatorOf l)
operators_of {l = l} (link {t = t} {o = o} {os = os} found operand links) = All-cons (IsOperatorOf l) o os (t, found) (operators_of links)

-- there is one for each operand
operators_length : {labels : Labels} {l : Precedence} {b : List Kind} {ys : List Expr} {os : List Op} → ChainTail labels l b ys os → length os ≡ length ys
operators_length end = refl
operators_length (link found operand links) = ap suc (operators_length links)

-- an implication has one link only
one_arrow : {labels : Labels} {l : Precedence} {b : List Kind} {y : Expr} {ys : List Expr} {os : List Op} {o : Op} {t : Kind} (a : List Kind)
    → operator l t ≡ Some o → Derives labels (inner l) a y → ChainTail labels l b ys os → HasNoTwoArrows labels (t ∷ (a ++ b)) → l ≡ rule.Implication → ys ≡ []
one_arrow a found operand end none is = refl
one_arrow {labels = labels} {l = l} {y = y} {o = o} {t = t} a found operand (link {t = u} {o = p} {a = c} {b = d} found_next next links) none is =
    let first : t ≡ k.Implies = arrow_of t o (ap (λ m. operator m t) (sym is) ∙ found) in
    let second : u ≡ k.Implies = arrow_of u p (ap (λ m. operator m u) (sym is) ∙ found_next) in
    absurd (none [] a (c ++ d) y (ap (λ z. z ∷ (a ++ (u ∷ (c ++ d)))) first ∙ ap (λ z. k.Implies ∷ (a ++ (z ∷ (c ++ d)))) second) (subst (λ m. Derives labels (inner m) a y) is operand))

-- the tree of a chain is well formed where its operands are
level_formed : {labels : Labels} {l : Precedence} {b : List Kind} {x : Expr} {ys : List Expr} {os : List Op} → ChainTail labels l b ys os → Fit labels b → IsFormed labels x → AreFormed labels ys → IsFormed labels (level x ys os)
level_formed end fit first others = first
level_formed {l = l} (link {t = t} {o = o} {a = a} {ys = ys} {os = os} found operand links) fit first others =
    IsFormed.level l
    (All-cons (IsOperatorOf l) o os (t, found) (operators_of links))
    (ap suc (operators_length links))
    (λ is. one_arrow a found operand links fit.arrows is)
    first
    others

-- the tree of a token that stands alone is well formed where the token is
atom_formed : (labels : Labels) (t : Kind) (x : Expr) → atom labels t ≡ Some x → IsFormedKind t → IsFormed labels x
atom_formed labels (k.Whole value) x found formed = subst (IsFormed labels) (some_same found) (IsFormed.whole formed)
atom_formed labels (k.Real value) x found formed = subst (IsFormed labels) (some_same found) (IsFormed.real formed)
atom_formed labels k.True x found formed = subst (IsFormed labels) (some_same found) IsFormed.truth
atom_formed labels k.False x found formed = subst (IsFormed labels) (some_same found) IsFormed.truth
atom_formed labels (k.Name text) x found formed = subst (IsFormed labels) (some_same found) (IsFormed.name formed)
atom_formed Allowed (k.Quoted text) x found formed = subst (IsFormed Allowed) (some_same found) (IsFormed.quoted refl formed)
atom_formed Refused (k.Quoted text) x found formed = absurd (none-some x found)
atom_formed labels _ x found formed = absurd (none-some x found)

-- so is a tree with a sign before it
signed_formed : {labels : Labels} {x : Expr} (l : Precedence) (t : Kind) → is_sign l t ≡ true → IsFormed labels x → IsFormed labels (signed l x)
signed_formed {labels = labels} {x = x} l t is_true formed = of_sign l t (sign_of l t is_true)
  where
    of_sign : (m : Precedence) (u : Kind) → SignOf m u → IsFormed labels (signed m x)
    of_sign m u bang = IsFormed.«not» formed
    of_sign m u dash = IsFormed.minus formed

mutual
  -- a text
  fit_formed : {labels : Labels} {l : Precedence} {ks : List Kind} {x : Expr} → Derives labels l ks x → Fit labels ks → IsFormed labels x
  fit_formed (chain {a = a} {b = b} is_true operand links) fit = level_formed links (fit_rest a b fit) (fit_formed operand (fit_front a b fit)) (links_formed links (fit_rest a b fit))
  fit_formed (bare is_true operand) fit = fit_formed operand fit
  fit_formed {l = l} (sign {t = t} {a = a} is_true operand) fit = signed_formed l t is_true (fit_formed operand (fit_tail t a fit))
  fit_formed (plain first) fit = fit_formed first fit
  fit_formed (conditional {a = a} {b = b} {c = c} first second third) fit =
      let after = fit_tail k.Query (b ++ (k.Colon ∷ c)) (fit_rest a (k.Query ∷ (b ++ (k.Colon ∷ c))) fit) in
      IsFormed.conditional
      (fit_formed first (fit_front a (k.Query ∷ (b ++ (k.Colon ∷ c))) fit))
      (fit_formed second (fit_front b (k.Colon ∷ c) after))
      (fit_formed third (fit_tail k.Colon c (fit_rest b (k.Colon ∷ c) after)))
  fit_formed {labels = labels} (leaf {t = t} {x = x} found) fit = atom_formed labels t x found (All-head IsFormedKind t [] fit.kinds)
  fit_formed (paren {a = a} inside) fit = IsFormed.paren (fit_formed inside (fit_front a (k.Close ∷ []) (fit_tail k.Open (a ++ (k.Close ∷ [])) fit)))
  fit_formed (call {t = t} {a = a} {b = b} found fits first parts) fit =
      let after = fit_tail k.Open (a ++ (b ++ (k.Close ∷ []))) (fit_tail t (k.Open ∷ (a ++ (b ++ (k.Close ∷ [])))) fit) in
      IsFormed.call fits (fit_formed first (fit_front a (b ++ (k.Close ∷ [])) after)) (parts_formed parts (fit_front b (k.Close ∷ []) (fit_rest a (b ++ (k.Close ∷ [])) after)))

  -- links
  links_formed : {labels : Labels} {l : Precedence} {b : List Kind} {ys : List Expr} {os : List Op} → ChainTail labels l b ys os → Fit labels b → AreFormed labels ys
  links_formed end fit = AreFormed.none
  links_formed (link {t = t} {a = a} {b = b} found operand links) fit =
      let after = fit_tail t (a ++ b) fit in
      AreFormed.more (fit_formed operand (fit_front a b after)) (links_formed links (fit_rest a b after))

  -- parts of a call
  parts_formed : {labels : Labels} {b : List Kind} {ys : List Expr} → Arguments labels b ys → Fit labels b → AreFormed labels ys
  parts_formed last fit = AreFormed.none
  parts_formed (argument {a = a} {b = b} first parts) fit =
      let after = fit_tail k.Comma (a ++ b) fit in
      AreFormed.more (fit_formed first (fit_front a b after)) (parts_formed parts (fit_rest a b after))

-- the tree of well-formed tokens in which no chain has two arrows is well formed
pub formed : {labels : Labels} {l : Precedence} {ks : List Kind} {x : Expr} → Derives labels l ks x → All IsFormedKind ks → HasNoTwoArrows labels ks → IsFormed labels x
formed text kinds arrows = fit_formed text (record { kinds = kinds; arrows = arrows })
