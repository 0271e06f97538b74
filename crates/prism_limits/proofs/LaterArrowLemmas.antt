-- Two arrows with an operand between them stand in the tokens of a tree with a long chain.
use Rattle.std.proofs.Common.{◌≡◌, ℕ, Bool, true, false, List, [], ◌∷◌, ◌++◌, Some, refl, sym, ap, subst, ◌∙◌}
use Rattle.std.proofs.lemmas.List.{append_assoc, append-nil}
use Rattle.std.proofs.lemmas.Option.{none-some}
use Rattle.prism_syntax.specs.declared.labels.Labels.{Labels}
use Rattle.prism_syntax.specs.declared.labels.Labels.TheVariants.{Allowed, Refused}
use Rattle.prism_syntax.specs.declared.tokens.Kind.{Kind}
use Rattle.prism_syntax.specs.declared.tokens.Kind.TheVariants as k
use Rattle.prism_syntax.specs.declared.expressions.Expr.{Expr}
use Rattle.prism_syntax.specs.declared.expressions.Func.{Func}
use Rattle.prism_syntax.specs.declared.expressions.Op.{Op}
use Rattle.prism_syntax.specs.declared.expressions.Op.TheVariants as o
use Rattle.prism_syntax.specs.declared.precedence.Precedence.{Precedence}
use Rattle.prism_syntax.specs.declared.precedence.Precedence.TheVariants as rule
use Rattle.prism_syntax.specs.Precedence.{inner, operator, atom, function}
use Rattle.prism_syntax.specs.Expressions.{Derives, chain, bare, sign, plain, conditional, leaf, paren, call, ChainTail, end, link, Arguments, last, argument, level}
use Rattle.prism_expression.specs.Follow.{goes_on, Ends}
use Rattle.prism_expression.proofs.RankLemmas.{SignOf, bang, dash, sign_of, false_true, inner_binds, goes_on_less, operator_chain, operand_stops}
use Rattle.prism_expression.proofs.CompareLemmas.{agreed}
use Rattle.prism_limits.specs.Arrows.{HasLongChain, OneHasLongChain, arrows, in_operand, in_argument, in_paren, in_condition, in_consequence, in_alternative, in_first, in_later, IsLaterArrow}
use Rattle.prism_limits.specs.ChainWalk.{is_arrow, begins_arrow}
use Rattle.prism_limits.proofs.ArrowPlaceLemmas.{HasArrow, AfterArrow, after_raised, no_arrow, in_parts, in_cons, in_tail, in_one}
use Rattle.prism_limits.proofs.LongChainLemmas.{first_or_later, level_first, sign_long, implication_operator, arrow_line}

-- no sign is an arrow
sign_other : {l : Precedence} {t : Kind} → SignOf l t → is_arrow t ≡ false
sign_other bang = refl
sign_other dash = refl

-- nor is a token that is an expression by itself
atom_other : (q : Labels) (t : Kind) (x : Expr) → atom q t ≡ Some x → is_arrow t ≡ false
atom_other Allowed k.Implies x found = absurd (none-some x found)
atom_other Refused k.Implies x found = absurd (none-some x found)
atom_other _ _ x found = refl

-- nor the name of a function
function_other : (t : Kind) (f : Func) → function t ≡ Some f → is_arrow t ≡ false
function_other k.Implies f found = absurd (none-some f found)
function_other _ f found = refl

-- a token goes on a text or does not
ends_where : (l : Precedence) (t : Kind) → (goes_on l t ≡ true → ⊥) → goes_on l t ≡ false
ends_where l t stops = bool_false (goes_on l t) stops
  where
    bool_false : (b : Bool) → (b ≡ true → ⊥) → b ≡ false
    bool_false true not = absurd (not refl)
    bool_false false not = refl

-- what does not go on a text does not go on an operand of it
ends_inner : (l : Precedence) (ts : List Kind) → Ends l ts → Ends (inner l) ts
ends_inner l [] ends = ends
ends_inner l (t ∷ ts) ends = ends_where (inner l) t (λ goes. false_true (sym ends ∙ goes_on_less l (inner l) (t ∷ ts) (inner_binds l) goes))

-- what comes after an operand of a chain does not go on it
links_end : {q : Labels} {l : Precedence} {b : List Kind} {ys : List Expr} {os : List Op} (after : List Kind) → ChainTail q l b ys os → Ends l after → Ends (inner l) (b ++ after)
links_end {l = l} after end ends = ends_inner l after ends
links_end {l = l} after (link {t = t} {o = op} found operand links) ends = ends_where (inner l) t (operand_stops l t op (operator_chain l t op found) found)

-- what comes after a argument of a call does not go on it
parts_end : {q : Labels} {b : List Kind} {ys : List Expr} (after : List Kind) → Arguments q b ys → Ends rule.Conditional after → Ends rule.Conditional (b ++ after)
parts_end after last ends = ends
parts_end after (argument first parts) ends = refl

-- links of which two or more are arrows, or of which an operand has a long chain
data LongLinks (l : Precedence) : List Expr → List Op → Type 0 where
  within : (ys : List Expr) (os : List Op) → OneHasLongChain ys → LongLinks l ys os
  both : (y : Expr) (ys : List Expr) (os : List Op) → l ≡ rule.Implication → LongLinks l (y ∷ ys) (o.Imp ∷ (o.Imp ∷ os))

-- their chain is long
long_level : {l : Precedence} {ys : List Expr} {os : List Op} (x : Expr) → LongLinks l ys os → HasLongChain (level x ys os)
long_level x (within [] os one) = absurd (first_or_later one)
long_level x (within (y ∷ ys) os one) = in_operand (x ∷ (y ∷ ys)) os (in_later x (y ∷ ys) one)
long_level x (both y ys os is) = arrows (x ∷ (y ∷ ys)) os

-- one more link before them
long_link : {l : Precedence} {op : Op} {ys : List Expr} {os : List Op} (t : Kind) (y : Expr) → operator l t ≡ Some op → LongLinks l ys os → LongLinks l (y ∷ ys) (op ∷ os)
long_link {op = op} t y found (within ys os one) = within (y ∷ ys) (op ∷ os) (in_later y ys one)
long_link {l = l} {op = op} t y found (both z ys os is) =
    let same : op ≡ o.Imp = implication_operator t op (ap (λ m. operator m t) (sym is) ∙ found) in
    subst (λ p. LongLinks l (y ∷ (z ∷ ys)) (p ∷ (o.Imp ∷ (o.Imp ∷ os)))) (sym same) (both y (z ∷ ys) (o.Imp ∷ os) is)

-- what does not go on an implication does not begin with an arrow
ends_no_arrow : {l : Precedence} (after : List Kind) → l ≡ rule.Implication → Ends l after → begins_arrow after ≡ true → ⊥
ends_no_arrow [] is ends begins = false_true begins
ends_no_arrow (k.Implies ∷ ts) is ends begins = false_true (sym ends ∙ ap (λ m. goes_on m k.Implies) is)
ends_no_arrow (_ ∷ ts) is ends begins = false_true begins

-- where another arrow comes after the operand of an arrow, two links are arrows
links_long : {q : Labels} {l : Precedence} {op : Op} {b : List Kind} {ys : List Expr} {os : List Op} (t : Kind) (y : Expr) (after : List Kind)
    → operator l t ≡ Some op → l ≡ rule.Implication → ChainTail q l b ys os → Ends l after → begins_arrow (b ++ after) ≡ true → LongLinks l (y ∷ ys) (op ∷ os)
links_long t y after found is end ends begins = absurd (ends_no_arrow after is ends begins)
links_long {l = l} {op = op} t y after found is (link {t = u} {o = other} {y = z} {ys = ys} {os = os} found_next next links) ends begins =
    let one : op ≡ o.Imp = implication_operator t op (ap (λ m. operator m t) (sym is) ∙ found) in
    let more : other ≡ o.Imp = implication_operator u other (ap (λ m. operator m u) (sym is) ∙ found_next) in
    subst (λ p. LongLinks l (y ∷ (z ∷ ys)) (p ∷ (other ∷ os))) (sym one)
    (subst (λ p. LongLinks l (y ∷ (z ∷ ys)) (o.Imp ∷ (p ∷ os))) (sym more) (both y (z ∷ ys) os is))

-- what comes after the arrow of a link
after_link : {q : Labels} {l : Precedence} {t : Kind} {op : Op} {b : List Kind} {y : Expr} {ys : List Expr} {os : List Op} (a after : List Kind)
    → operator l t ≡ Some op → Derives q (inner l) a y → ChainTail q l b ys os → Ends l after → t ≡ k.Implies → AfterArrow q (LongLinks l (y ∷ ys) (op ∷ os)) ((a ++ b) ++ after)
after_link {q = q} {l = l} {t = t} {op = op} {b = b} {y = y} a after found operand links ends arrow =
    let is : l ≡ rule.Implication = arrow_line l op (ap (operator l) (sym arrow) ∙ found) in
    record {
      operand = a;
      tail = b ++ after;
      tree = y;
      cut = append_assoc a b after;
      text = subst (λ m. Derives q (inner m) a y) is operand;
      ends = subst (λ m. Ends (inner m) (b ++ after)) is (links_end after links ends);
      long = links_long t y after found is links ends;
    }

mutual
  -- what comes after an arrow of a text
  pub after_text : {q : Labels} {l : Precedence} {ks : List Kind} {x : Expr} (after rest : List Kind) → Derives q l ks x → Ends l after → HasArrow ks rest → AfterArrow q (HasLongChain x) (rest ++ after)
  after_text after rest (chain {a = a} {b = b} {x = x} {ys = ys} {os = os} is_true operand links) ends arrow =
      in_parts a b after rest arrow
      (λ outer_rest here. after_raised (level_first ys os) (after_text (b ++ after) outer_rest operand (links_end after links ends) here))
      (λ outer_rest there. after_raised (long_level x) (after_links after outer_rest links ends there))
  after_text {l = l} after rest (bare is_true operand) ends arrow = after_text after rest operand (ends_inner l after ends) arrow
  after_text {l = l} after rest (sign {t = t} {a = a} is_true operand) ends arrow =
      in_tail t a after rest arrow (sign_other (sign_of l t is_true))
      (λ outer_rest there. after_raised (sign_long (sign_of l t is_true)) (after_text after outer_rest operand ends there))
  after_text after rest (plain first) ends arrow = after_text after rest first (ends_inner rule.Conditional after ends) arrow
  after_text after rest (conditional {a = a} {b = b} {c = c} {x = x} {y = y} {z = z} one second third) ends arrow =
      in_parts a (k.Query ∷ (b ++ (k.Colon ∷ c))) after rest arrow
      (λ outer_rest here. after_raised (in_condition x y z) (after_text ((k.Query ∷ (b ++ (k.Colon ∷ c))) ++ after) outer_rest one refl here))
      (λ outer_rest there. in_tail k.Query (b ++ (k.Colon ∷ c)) after outer_rest there refl
      (λ middle_rest others. in_parts b (k.Colon ∷ c) after middle_rest others
      (λ inner_rest here. after_raised (in_consequence x y z) (after_text ((k.Colon ∷ c) ++ after) inner_rest second refl here))
      (λ inner_rest beyond. in_tail k.Colon c after inner_rest beyond refl
      (λ inmost_rest here. after_raised (in_alternative x y z) (after_text after inmost_rest third ends here)))))
  after_text {q = q} after rest (leaf {t = t} {x = x} found) ends arrow = in_one t after rest arrow (atom_other q t x found)
  after_text after rest (paren {a = a} {x = x} inside) ends arrow =
      in_tail k.Open (a ++ (k.Close ∷ [])) after rest arrow refl
      (λ outer_rest there. in_parts a (k.Close ∷ []) after outer_rest there
      (λ middle_rest here. after_raised (in_paren x) (after_text (k.Close ∷ after) middle_rest inside refl here))
      (λ middle_rest beyond. in_one k.Close after middle_rest beyond refl))
  after_text after rest (call {t = t} {f = f} {a = a} {b = b} {x = x} {ys = ys} found fits one parts) ends arrow =
      in_tail t (k.Open ∷ (a ++ (b ++ (k.Close ∷ [])))) after rest arrow (function_other t f found)
      (λ outer_rest there. in_tail k.Open (a ++ (b ++ (k.Close ∷ []))) after outer_rest there refl
      (λ middle_rest others. in_parts a (b ++ (k.Close ∷ [])) after middle_rest others
      (λ inner_rest here. after_raised (λ long. in_argument f (x ∷ ys) (in_first x ys long))
      (after_text ((b ++ (k.Close ∷ [])) ++ after) inner_rest one
      (subst (Ends rule.Conditional) (sym (append_assoc b (k.Close ∷ []) after)) (parts_end (k.Close ∷ after) parts refl)) here))
      (λ inner_rest beyond. in_parts b (k.Close ∷ []) after inner_rest beyond
      (λ inmost_rest here. after_raised (λ one_of. in_argument f (x ∷ ys) (in_later x ys one_of)) (after_parts (k.Close ∷ after) inmost_rest parts refl here))
      (λ inmost_rest closing. in_one k.Close after inmost_rest closing refl))))

  -- of links
  after_links : {q : Labels} {l : Precedence} {b : List Kind} {ys : List Expr} {os : List Op} (after rest : List Kind) → ChainTail q l b ys os → Ends l after → HasArrow b rest
      → AfterArrow q (LongLinks l ys os) (rest ++ after)
  after_links after rest end ends arrow = absurd (no_arrow rest arrow)
  after_links after rest (link {t = t} {o = op} {a = a} {b = b} {y = y} {ys = ys} {os = os} found operand links) ends arrow =
      in_cons t (a ++ b) after rest arrow
      (after_link a after found operand links ends)
      (λ outer_rest there. in_parts a b after outer_rest there
      (λ middle_rest here. after_raised (λ long. within (y ∷ ys) (op ∷ os) (in_first y ys long)) (after_text (b ++ after) middle_rest operand (links_end after links ends) here))
      (λ middle_rest beyond. after_raised (long_link t y found) (after_links after middle_rest links ends beyond)))

  -- and of parts of a call
  after_parts : {q : Labels} {b : List Kind} {ys : List Expr} (after rest : List Kind) → Arguments q b ys → Ends rule.Conditional after → HasArrow b rest → AfterArrow q (OneHasLongChain ys) (rest ++ after)
  after_parts after rest last ends arrow = absurd (no_arrow rest arrow)
  after_parts after rest (argument {a = a} {b = b} {y = y} {ys = ys} one parts) ends arrow =
      in_tail k.Comma (a ++ b) after rest arrow refl
      (λ outer_rest there. in_parts a b after outer_rest there
      (λ middle_rest here. after_raised (in_first y ys) (after_text (b ++ after) middle_rest one (parts_end after parts ends) here))
      (λ middle_rest beyond. after_raised (in_later y ys) (after_parts after middle_rest parts ends beyond)))

-- a later arrow stands in the tokens of a tree with a long chain
pub later_long : {q : Labels} {ks : List Kind} {x : Expr} {index : ℕ} → Derives q rule.Conditional ks x → IsLaterArrow q ks index → HasLongChain x
later_long text arrow =
    let next : AfterArrow _ _ _ = after_text [] (arrow.operand ++ (k.Implies ∷ arrow.after)) text tt (arrow.before, arrow.cut) in
    let same = agreed next.text arrow.text (sym next.cut ∙ append-nil (arrow.operand ++ (k.Implies ∷ arrow.after))) next.ends refl in
    next.long (ap begins_arrow same.1)
