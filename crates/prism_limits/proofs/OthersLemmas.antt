-- Tokens that have no word `rewards` among them, as the texts of expressions.
use Rattle.std.proofs.Common.{◌≡◌, Bool, true, false, ◌&&◌, List, [], ◌∷◌, ◌++◌, Some, None, refl, sym, ap, ◌∙◌, subst}
use Rattle.std.proofs.lemmas.List.{append_assoc}
use Rattle.std.proofs.lemmas.Option.{none-some}
use Rattle.prism_syntax.specs.declared.labels.Labels.{Labels}
use Rattle.prism_syntax.specs.declared.labels.Labels.TheVariants.{Allowed, Refused}
use Rattle.prism_syntax.specs.declared.tokens.Kind.{Kind}
use Rattle.prism_syntax.specs.declared.tokens.Kind.TheVariants as k
use Rattle.prism_syntax.specs.declared.expressions.Expr.{Expr}
use Rattle.prism_syntax.specs.declared.expressions.Func.{Func}
use Rattle.prism_syntax.specs.declared.expressions.Op.{Op}
use Rattle.prism_syntax.specs.declared.precedence.Precedence.{Precedence}
use Rattle.prism_syntax.specs.declared.precedence.Precedence.TheVariants as rule
use Rattle.prism_syntax.specs.Precedence.{operator, is_sign, atom, function}
use Rattle.prism_syntax.specs.Expressions.{Derives, chain, bare, sign, plain, conditional, leaf, paren, call, ChainTail, end, link, Arguments, last, argument}
use Rattle.prism_expression.proofs.RankLemmas.{false_true}
use Rattle.prism_limits.specs.Words.{EndsInRewards}

-- a token other than the word `rewards`
abbrev pub is_other : Kind → Bool
is_other k.Rewards = false
is_other _ = true

-- none of the tokens is the word `rewards`
abbrev pub are_others : List Kind → Bool
are_others [] = true
are_others (t ∷ ts) = is_other t && are_others ts

-- where two tests pass, the first does
pub first_passes : (x y : Bool) → (x && y) ≡ true → x ≡ true
first_passes true y is = refl
first_passes false y is = is

-- and so does the second
pub second_passes : (x y : Bool) → (x && y) ≡ true → y ≡ true
second_passes true y is = is
second_passes false y is = absurd (false_true is)

-- one more token that is not the word
pub others_cons : (t : Kind) (ts : List Kind) → is_other t ≡ true → are_others ts ≡ true → are_others (t ∷ ts) ≡ true
others_cons t ts one more = ap (λ b. b && are_others ts) one ∙ more

-- two parts without the word
pub others_append : (a b : List Kind) → are_others a ≡ true → are_others b ≡ true → are_others (a ++ b) ≡ true
others_append [] b first second = second
others_append (t ∷ a) b first second =
    others_cons t (a ++ b) (first_passes (is_other t) (are_others a) first) (others_append a b (second_passes (is_other t) (are_others a) first) second)

-- tokens without the word do not have it
pub others_none : (front rest : List Kind) → are_others (front ++ (k.Rewards ∷ rest)) ≡ true → ⊥
others_none [] rest others = false_true others
others_none (t ∷ front) rest others = others_none front rest (second_passes (is_other t) (are_others (front ++ (k.Rewards ∷ rest))) others)

-- no front of such tokens ends in a rewards block
pub others_outside : (before after : List Kind) → are_others (before ++ after) ≡ true → EndsInRewards before → ⊥
others_outside before after others ends =
    let cut = ap (λ z. z ++ after) ends.cut ∙ append_assoc ends.before (k.Rewards ∷ ends.inside) after in
    others_none ends.before (ends.inside ++ after) (subst (λ z. are_others z ≡ true) cut others)

-- the word is no sign
no_sign : (l : Precedence) → is_sign l k.Rewards ≡ false
no_sign rule.Negation = refl
no_sign _ = refl

-- nor an operator
no_operator : (l : Precedence) → operator l k.Rewards ≡ None
no_operator rule.Implication = refl
no_operator _ = refl

-- nor an expression by itself
no_atom : (q : Labels) → atom q k.Rewards ≡ None
no_atom Allowed = refl
no_atom Refused = refl

-- so a sign is another token
pub sign_other : (l : Precedence) (t : Kind) → is_sign l t ≡ true → is_other t ≡ true
sign_other l k.Rewards is = absurd (false_true (sym (no_sign l) ∙ is))
sign_other l _ is = refl

-- and so is an operator
pub operator_other : (l : Precedence) (t : Kind) (o : Op) → operator l t ≡ Some o → is_other t ≡ true
operator_other l k.Rewards o found = absurd (none-some o (sym (no_operator l) ∙ found))
operator_other l _ o found = refl

-- and an expression by itself
pub atom_other : (q : Labels) (t : Kind) (x : Expr) → atom q t ≡ Some x → is_other t ≡ true
atom_other q k.Rewards x found = absurd (none-some x (sym (no_atom q) ∙ found))
atom_other q _ x found = refl

-- and the name of a function
pub function_other : (t : Kind) (f : Func) → function t ≡ Some f → is_other t ≡ true
function_other k.Rewards f found = absurd (none-some f found)
function_other _ f found = refl

mutual
  -- no text of an expression has the word
  pub text_others : {q : Labels} {l : Precedence} {ks : List Kind} {x : Expr} → Derives q l ks x → are_others ks ≡ true
  text_others (chain {a = a} {b = b} is_true operand links) = others_append a b (text_others operand) (links_others links)
  text_others (bare is_true operand) = text_others operand
  text_others {l = l} (sign {t = t} {a = a} is_true operand) = others_cons t a (sign_other l t is_true) (text_others operand)
  text_others (plain first) = text_others first
  text_others (conditional {a = a} {b = b} {c = c} first second third) =
      others_append a (k.Query ∷ (b ++ (k.Colon ∷ c))) (text_others first) (others_append b (k.Colon ∷ c) (text_others second) (text_others third))
  text_others {q = q} (leaf {t = t} {x = x} found) = others_cons t [] (atom_other q t x found) refl
  text_others (paren {a = a} inside) = others_append a (k.Close ∷ []) (text_others inside) refl
  text_others (call {t = t} {f = f} {a = a} {b = b} found fits first parts) =
      let inside = others_append a (b ++ (k.Close ∷ [])) (text_others first) (others_append b (k.Close ∷ []) (parts_others parts) refl) in
      others_cons t (k.Open ∷ (a ++ (b ++ (k.Close ∷ [])))) (function_other t f found) inside

  -- nor links of a chain
  links_others : {q : Labels} {l : Precedence} {b : List Kind} {ys : List Expr} {os : List Op} → ChainTail q l b ys os → are_others b ≡ true
  links_others end = refl
  links_others {l = l} (link {t = t} {o = o} {a = a} {b = b} found operand links) =
      others_cons t (a ++ b) (operator_other l t o found) (others_append a b (text_others operand) (links_others links))

  -- nor parts of a call
  parts_others : {q : Labels} {b : List Kind} {ys : List Expr} → Arguments q b ys → are_others b ≡ true
  parts_others last = refl
  parts_others (argument {a = a} {b = b} first parts) = others_append a b (text_others first) (parts_others parts)
