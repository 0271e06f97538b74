-- The tokens of a tree with a long chain have two arrows of one chain.
use Rattle.std.proofs.Common.{◌≡◌, ◌+◌, ℕ, length, Bool, List, [], ◌∷◌, ◌++◌, ◌⊎◌, inl, inr, ⊎_elim, Some, refl, sym, ap, subst, ◌∙◌}
use Rattle.std.proofs.lemmas.List.{append_assoc}
use Rattle.prism_syntax.specs.declared.labels.Labels.{Labels}
use Rattle.prism_syntax.specs.declared.tokens.Kind.{Kind}
use Rattle.prism_syntax.specs.declared.tokens.Kind.TheVariants as k
use Rattle.prism_syntax.specs.declared.expressions.Expr.{Expr}
use Rattle.prism_syntax.specs.declared.expressions.Op.{Op}
use Rattle.prism_syntax.specs.declared.expressions.Op.TheVariants as o
use Rattle.prism_syntax.specs.declared.precedence.Precedence.{Precedence}
use Rattle.prism_syntax.specs.declared.precedence.Precedence.TheVariants as rule
use Rattle.prism_syntax.specs.Precedence.{inner, operator}
use Rattle.prism_syntax.specs.Expressions.{Derives, chain, bare, sign, plain, conditional, leaf, paren, call, ChainTail, end, link, Arguments, last, argument, level}
use Rattle.prism_expression.proofs.RankLemmas.{sign_of}
use Rattle.prism_limits.specs.Arrows.{HasLongChain, OneHasLongChain, IsLaterArrow}
use Rattle.prism_limits.proofs.LongChainLemmas.{BeginsWithTwo, level_has, call_has, paren_has, choice_has, first_or_later, sign_has, leaf_has, arrow_line, arrow_token}
use Rattle.prism_limits.proofs.OthersLemmas.{are_others, text_others, others_outside}

-- two arrows stand in the tokens, and between them one operand
pub record HasTwoArrows (q : Labels) (ks : List Kind) : Type 0 where
  pub before : List Kind
  pub operand : List Kind
  pub after : List Kind
  pub tree : Expr
  pub cut : ks ≡ before ++ (k.Implies ∷ (operand ++ (k.Implies ∷ after)))
  pub text : Derives q rule.Equivalence operand tree

-- so they do where more tokens follow
pub two_front : {q : Labels} {a : List Kind} (b : List Kind) → HasTwoArrows q a → HasTwoArrows q (a ++ b)
two_front b two = record {
  before = two.before;
  operand = two.operand;
  after = two.after ++ b;
  tree = two.tree;
  cut =
      ap (λ z. z ++ b) two.cut ∙ append_assoc two.before (k.Implies ∷ (two.operand ++ (k.Implies ∷ two.after))) b
      ∙ ap (λ z. two.before ++ (k.Implies ∷ z)) (append_assoc two.operand (k.Implies ∷ two.after) b);
  text = two.text;
}

-- and where more stand before
pub two_rest : {q : Labels} (a : List Kind) {b : List Kind} → HasTwoArrows q b → HasTwoArrows q (a ++ b)
two_rest a two = record {
  before = a ++ two.before;
  operand = two.operand;
  after = two.after;
  tree = two.tree;
  cut = ap (λ z. a ++ z) two.cut ∙ sym (append_assoc a two.before (k.Implies ∷ (two.operand ++ (k.Implies ∷ two.after))));
  text = two.text;
}

pub two_tail : {q : Labels} (t : Kind) {b : List Kind} → HasTwoArrows q b → HasTwoArrows q (t ∷ b)
two_tail t two = two_rest (t ∷ []) two

-- a long chain of the tree of a chain is one of its first operand, one of another, or the chain itself
level_inside : {q : Labels} {l : Precedence} {b : List Kind} {x : Expr} {ys : List Expr} {os : List Op} → ChainTail q l b ys os → HasLongChain (level x ys os)
    → HasLongChain x ⊎ (OneHasLongChain ys ⊎ BeginsWithTwo os)
level_inside end long = inl long
level_inside {x = x} (link {y = y} {ys = ys} found operand links) long =
    ⊎_elim
    (λ (one : OneHasLongChain (x ∷ (y ∷ ys))). ⊎_elim (λ here. inl here) (λ there. inr (inl there)) (first_or_later one))
    (λ two. inr (inr two))
    (level_has long)

-- one link alone has no two operators
one_operator : {op : Op} → BeginsWithTwo (op ∷ []) → ⊥
one_operator two = let clash = two.1 in cc

-- two links with arrows
two_links : {q : Labels} {l : Precedence} {b : List Kind} {ys : List Expr} {os : List Op} → ChainTail q l b ys os → BeginsWithTwo os → HasTwoArrows q b
two_links end two = let clash = two.1 in absurd (cc)
two_links (link found operand end) two = absurd (one_operator two)
two_links {q = q} {l = l} (link {t = t} {o = op} {a = a} {y = y} found operand (link {t = u} {o = other} {a = c} {b = d} found_next next links)) two =
    let equal = two.1 in
    let first_op : op ≡ o.Imp = cc in
    let second_op : other ≡ o.Imp = cc in
    let first : t ≡ k.Implies = arrow_token l t (found ∙ ap Some first_op) in
    let second : u ≡ k.Implies = arrow_token l u (found_next ∙ ap Some second_op) in
    let is : l ≡ rule.Implication = arrow_line l op (ap (operator l) (sym first) ∙ found) in
    record {
      before = [];
      operand = a;
      after = c ++ d;
      tree = y;
      cut = ap (λ z. z ∷ (a ++ (u ∷ (c ++ d)))) first ∙ ap (λ z. k.Implies ∷ (a ++ (z ∷ (c ++ d)))) second;
      text = subst (λ m. Derives q (inner m) a y) is operand;
    }

mutual
  -- the tokens of a text whose tree has a long chain
  pub text_arrows : {q : Labels} {l : Precedence} {ks : List Kind} {x : Expr} → Derives q l ks x → HasLongChain x → HasTwoArrows q ks
  text_arrows {q = q} (chain {a = a} {b = b} is_true operand links) long =
      ⊎_elim
      (λ here. two_front b (text_arrows operand here))
      (λ there. two_rest a (⊎_elim (λ one. link_arrows links one) (λ two. two_links links two) there))
      (level_inside links long)
  text_arrows (bare is_true operand) long = text_arrows operand long
  text_arrows {l = l} (sign {t = t} is_true operand) long = two_tail t (text_arrows operand (sign_has (sign_of l t is_true) long))
  text_arrows (plain first) long = text_arrows first long
  text_arrows (conditional {a = a} {b = b} {c = c} first second third) long =
      ⊎_elim
      (λ here. two_front (k.Query ∷ (b ++ (k.Colon ∷ c))) (text_arrows first here))
      (λ there. two_rest a (two_tail k.Query (⊎_elim
      (λ here. two_front (k.Colon ∷ c) (text_arrows second here))
      (λ later. two_rest b (two_tail k.Colon (text_arrows third later)))
      there)))
      (choice_has long)
  text_arrows {q = q} (leaf {t = t} {x = x} found) long = absurd (leaf_has q t x found long)
  text_arrows (paren inside) long = two_tail k.Open (two_front (k.Close ∷ []) (text_arrows inside (paren_has long)))
  text_arrows (call {t = t} {a = a} {b = b} found fits first parts) long =
      two_tail t (two_tail k.Open (⊎_elim
      (λ here. two_front (b ++ (k.Close ∷ [])) (text_arrows first here))
      (λ later. two_rest a (two_front (k.Close ∷ []) (part_arrows parts later)))
      (first_or_later (call_has long))))

  -- of links of which an operand has one
  link_arrows : {q : Labels} {l : Precedence} {b : List Kind} {ys : List Expr} {os : List Op} → ChainTail q l b ys os → OneHasLongChain ys → HasTwoArrows q b
  link_arrows end one = absurd (first_or_later one)
  link_arrows (link {t = t} {a = a} {b = b} found operand links) one =
      two_tail t (⊎_elim (λ here. two_front b (text_arrows operand here)) (λ later. two_rest a (link_arrows links later)) (first_or_later one))

  -- and of parts of a call of which one has one
  part_arrows : {q : Labels} {b : List Kind} {ys : List Expr} → Arguments q b ys → OneHasLongChain ys → HasTwoArrows q b
  part_arrows last one = absurd (first_or_later one)
  part_arrows (argument {a = a} {b = b} first parts) one =
      two_tail k.Comma (⊎_elim (λ here. two_front b (text_arrows first here)) (λ later. two_rest a (part_arrows parts later)) (first_or_later one))

-- the second of the two is a later arrow
pub long_later : {q : Labels} {ks : List Kind} {x : Expr} → Derives q rule.Conditional ks x → HasLongChain x → (index : ℕ) × IsLaterArrow q ks index
long_later text long =
    let two = text_arrows text long in (
      length two.before + (1 + length two.operand),
      record {
        before = two.before;
        operand = two.operand;
        after = two.after;
        tree = two.tree;
        cut = two.cut;
        count = refl;
        text = two.text;
        outside = others_outside two.before (k.Implies ∷ (two.operand ++ (k.Implies ∷ two.after))) (ap are_others (sym two.cut) ∙ text_others text);
      },
    )
