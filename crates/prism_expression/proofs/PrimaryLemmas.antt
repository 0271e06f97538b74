-- Primaries: expressions in parentheses, calls, and tokens that stand alone.
use Rattle.std.proofs.Common.{◌≡◌, ℕ, ◌+◌, List, [], ◌∷◌, ◌++◌, length, Some, None, refl, sym, ap, ◌∙◌, subst, ◌⊎◌, inl, inr, ⊎_elim, arith}
use Rattle.std.proofs.lemmas.List.{length-append}
use Rattle.std.proofs.lemmas.Option.{none-some}
use Rattle.prism_syntax.specs.declared.labels.Labels.{Labels}
use Rattle.prism_syntax.specs.declared.tokens.Kind.{Kind}
use Rattle.prism_syntax.specs.declared.tokens.Kind.TheVariants as k
use Rattle.prism_syntax.specs.declared.expressions.Expr.{Expr}
use Rattle.prism_syntax.specs.declared.expressions.Expr.TheVariants as e
use Rattle.prism_syntax.specs.declared.expressions.Func.{Func}
use Rattle.prism_syntax.specs.declared.precedence.Precedence.TheVariants as rule
use Rattle.prism_syntax.specs.Precedence.{atom, function, takes}
use Rattle.prism_syntax.specs.Expressions.{Derives, leaf, paren, call}
use Rattle.prism_reading.specs.Reach.{IsPrefix}
use Rattle.prism_reading.specs.Sequences.{Ended, ended}
use Rattle.prism_reading.proofs.ReachLemmas.{whole_prefix, reach_nil, heads, tails}
use Rattle.prism_expression.specs.Parts.{rest, arguments, IsCalled, called}
use Rattle.prism_expression.proofs.TextLemmas.{PrimaryText, leaf_text, paren_text, call_text, primary_texts}
use Rattle.prism_expression.proofs.TwoTextLemmas.{some_same}
use Rattle.prism_expression.proofs.TwoPrimaryLemmas.{open_no_atom, open_no_function}
use Rattle.prism_expression.proofs.TruthLemmas.{derives_nothing}
use Rattle.prism_expression.proofs.FoundLemmas.{Found, Missing, Behind, behind_reach}

-- an expression up to `)`
abbrev Closed : Labels → List Kind → Expr → Type 0
Closed labels = Ended (Derives labels rule.Conditional) k.Close

-- what stands after the first token of a primary
data After (labels : Labels) (t : Kind) (g : List Kind) : Type 0 where
  alone : (x : Expr) → atom labels t ≡ Some x → g ≡ [] → After labels t g
  in_parens : (x : Expr) → t ≡ k.Open → Closed labels g x → After labels t g
  of_call : (f : Func) (xs : List Expr) → function t ≡ Some f → IsCalled labels f g xs → After labels t g

after : {labels : Labels} {h : List Kind} {y : Expr} (t : Kind) (g : List Kind) → PrimaryText labels h y → t ∷ g ≡ h → After labels t g
after {labels = labels} t g (leaf_text {x = x} found) is = alone x (ap (atom labels) (heads is) ∙ found) (tails is)
after {labels = labels} t g (paren_text {a = a} {x = x} text) is = in_parens x (heads is) (subst (λ v. Closed labels v x) (sym (tails is)) (ended text))
after {labels = labels} t g (call_text {f = f} {a = a} {b = b} {x = x} {ys = ys} found fits first more) is =
    let same : 0 + length ys ≡ length ys = omega arith in
    of_call f (x ∷ ys) (ap function (heads is) ∙ found) (subst (λ v. IsCalled labels f v (x ∷ ys)) (sym (tails is)) (called (arguments first (rest (ap (takes f) same ∙ fits) more))))

-- no primary is empty
some_token : {labels : Labels} {h : List Kind} {y : Expr} → PrimaryText labels h y → h ≡ [] → ⊥
some_token (leaf_text found) is = cc
some_token (paren_text text) is = cc
some_token (call_text found fits first more) is = cc

-- a primary at the front of tokens whose first is known
after_text : {labels : Labels} {ts us : List Kind} (t : Kind) (f r : List Kind) (y : Expr) → ts ≡ t ∷ us → ts ≡ f ++ r → Derives labels rule.Primary f y → (g : List Kind) × (us ≡ g ++ r) × After labels t g
after_text t [] r y is cut text = absurd (some_token (primary_texts text) refl)
after_text {labels = labels} {us = us} t (u ∷ f) r y is cut text =
    let both : t ∷ us ≡ u ∷ (f ++ r) = sym is ∙ cut in
    (f, tails both, after t f (primary_texts text) (ap (λ v. v ∷ f) (heads both)))

-- and a prefix of one: nothing, or the first token and a prefix of what stands after it
after_prefix : {labels : Labels} {ts us : List Kind} (t : Kind) (f r : List Kind) → ts ≡ t ∷ us → ts ≡ f ++ r → IsPrefix (Derives labels rule.Primary) f
    → (f ≡ []) ⊎ ((g : List Kind) × (more : List Kind) × (f ≡ t ∷ g) × (us ≡ g ++ r) × After labels t (g ++ more))
after_prefix t [] r is cut begins = inl refl
after_prefix {us = us} t (u ∷ f) r is cut begins =
    let both : t ∷ us ≡ u ∷ (f ++ r) = sym is ∙ cut in
    inr (f, begins.more, ap (λ v. v ∷ f) (sym (heads both)), tails both, after t (f ++ begins.more) (primary_texts begins.text) (ap (λ v. v ∷ (f ++ begins.more)) (heads both)))

-- ---- parentheses

closed_paren : {labels : Labels} {g : List Kind} {x : Expr} → Closed labels g x → Derives labels rule.Primary (k.Open ∷ g) (e.Paren x)
closed_paren (ended text) = paren text

opened : {labels : Labels} {t : Kind} {g : List Kind} → t ≡ k.Open → After labels t g → (x : Expr) × Closed labels g x
opened {labels = labels} {t = t} is (alone x found none) = absurd (open_no_atom labels t x is found)
opened is (in_parens x shown text) = (x, text)
opened {t = t} is (of_call f xs found text) = absurd (open_no_function t f is found)

-- an expression behind `(`
pub paren_behind : {labels : Labels} {ts us : List Kind} → ts ≡ k.Open ∷ us → Behind (Closed labels) (Derives labels rule.Primary) e.Paren ts us
paren_behind {labels = labels} {ts = ts} {us = us} is = record {
  before = k.Open ∷ [];
  cut = is;
  up = λ g x text. closed_paren text;
  texts = λ f r y cut text. let p = after_text k.Open f r y is cut text in let q = opened refl p.2 in inr (p.0, q.0, p.1, q.1);
  prefixes = λ f r cut begins. ⊎_elim (λ none. inl (omega (arith, ap length cut, ap length none, ap length is, length-append f r)))
      (λ p. let q = opened refl p.4 in inr (p.0, p.3, record { more = p.1; tree = q.0; text = q.1 })) (after_prefix k.Open f r is cut begins);
}

-- and no other way
pub paren_text_at : {labels : Labels} {ts us : List Kind} → ts ≡ k.Open ∷ us → (f r : List Kind) (y : Expr) → ts ≡ f ++ r → Derives labels rule.Primary f y
    → (g : List Kind) × (x : Expr) × (us ≡ g ++ r) × Closed labels g x
paren_text_at is f r y cut text = let p = after_text k.Open f r y is cut text in let q = opened refl p.2 in (p.0, q.0, p.1, q.1)

-- ---- calls

pub called_call : {labels : Labels} {t : Kind} {f : Func} {g : List Kind} {xs : List Expr} → function t ≡ Some f → IsCalled labels f g xs → Derives labels rule.Primary (t ∷ g) (e.Call f xs)
called_call {f = f} is (called (arguments {ys = ys} first (rest fits more))) = let same : length ys ≡ 0 + length ys = omega arith in call is (ap (takes f) same ∙ fits) first more

named : {labels : Labels} {t : Kind} {f : Func} {g : List Kind} → function t ≡ Some f → After labels t g → (g ≡ []) ⊎ ((xs : List Expr) × IsCalled labels f g xs)
named is (alone x found none) = inl none
named {t = t} {f = f} is (in_parens x shown text) = absurd (open_no_function t f shown is)
named {labels = labels} {g = g} is (of_call f xs found text) = inr (xs, subst (λ v. IsCalled labels v g xs) (some_same (sym found ∙ is)) text)

-- the arguments behind the name of a function
pub call_behind : {labels : Labels} {f : Func} {ts us : List Kind} (t : Kind) → function t ≡ Some f → ts ≡ t ∷ us → Behind (IsCalled labels f) (Derives labels rule.Primary) (e.Call f) ts us
call_behind {labels = labels} {f = f} {ts = ts} {us = us} t is_function is = record {
  before = t ∷ [];
  cut = is;
  up = λ g xs text. called_call is_function text;
  texts = λ g r y cut text. let p = after_text t g r y is cut text in
      ⊎_elim (λ none. inl (omega (arith, ap length p.1, ap length none, length-append p.0 r))) (λ q. inr (p.0, q.0, p.1, q.1)) (named is_function p.2);
  prefixes = λ g r cut begins. ⊎_elim (λ none. inl (omega (arith, ap length cut, ap length none, ap length is, length-append g r)))
      (λ p. ⊎_elim (λ none. inl (omega (arith, ap length p.3, ap length none, length-append p.0 r, length-append p.0 p.1)))
      (λ q. inr (p.0, p.3, record { more = p.1; tree = q.0; text = q.1 })) (named is_function p.4))
      (after_prefix t g r is cut begins);
}

-- a word that is no name, and no call
pub word_missing : {labels : Labels} {f : Func} {ts us : List Kind} {n : ℕ} (t : Kind) → function t ≡ Some f → ts ≡ t ∷ us → atom labels t ≡ None → Missing (IsCalled labels f) us n → Missing (Derives labels rule.Primary) ts n
word_missing {labels = labels} {f = f} {us = us} t is_function is no_atom none = record {
  none = λ g r y cut text. let p = after_text t g r y is cut text in no_text p.0 r p.1 p.2;
  reach = behind_reach (call_behind t is_function is) none.reach;
}
  where
    no_text : (g r : List Kind) → us ≡ g ++ r → After labels t g → ⊥
    no_text g r cut (alone x found nothing) = none-some x (sym no_atom ∙ found)
    no_text g r cut (in_parens x shown text) = open_no_function t f shown is_function
    no_text g r cut (of_call h xs found text) = none.none g r xs cut (subst (λ v. IsCalled labels v g xs) (some_same (sym found ∙ is_function)) text)

-- a name that could be called, and no call
pub name_found : {labels : Labels} {f : Func} {ts us : List Kind} {x : Expr} {n : ℕ} (t : Kind) → function t ≡ Some f → ts ≡ t ∷ us → atom labels t ≡ Some x → Missing (IsCalled labels f) us n → Found (Derives labels rule.Primary) ts x us n
name_found {labels = labels} t is_function is is_atom none = record {
  front = t ∷ [];
  cut = is;
  text = leaf is_atom;
  longest = λ g r y cut text. let p = after_text t g r y is cut text in
      ⊎_elim (λ nothing. omega (arith, ap length p.1, ap length nothing, length-append p.0 r)) (λ q. absurd (none.none p.0 r q.0 p.1 q.1)) (named is_function p.2);
  reach = behind_reach (call_behind t is_function is) none.reach;
}

-- ---- tokens alone

single : {labels : Labels} {t : Kind} {x : Expr} {g : List Kind} → atom labels t ≡ Some x → function t ≡ None → After labels t g → g ≡ []
single is_atom no_function (alone y found none) = none
single {labels = labels} {t = t} {x = x} is_atom no_function (in_parens y shown text) = absurd (open_no_atom labels t x shown is_atom)
single is_atom no_function (of_call f xs found text) = absurd (none-some f (sym no_function ∙ found))

-- a token that is an expression by itself
pub leaf_found : {labels : Labels} {ts us : List Kind} {x : Expr} (t : Kind) → ts ≡ t ∷ us → atom labels t ≡ Some x → function t ≡ None → Found (Derives labels rule.Primary) ts x us (length us)
leaf_found {labels = labels} {us = us} {x = x} t is is_atom no_function = record {
  front = t ∷ [];
  cut = is;
  text = leaf is_atom;
  longest = λ g r y cut text. let p = after_text t g r y is cut text in omega (arith, ap length p.1, ap length (single is_atom no_function p.2), length-append p.0 r);
  reach = record {
    prefix = t ∷ [];
    rest = us;
    cut = is;
    count = refl;
    begins = whole_prefix (Derives labels rule.Primary) (t ∷ []) x (leaf is_atom);
    furthest = λ g r cut begins. ⊎_elim (λ none. omega (arith, ap length cut, ap length none, ap length is, length-append g r))
        (λ p. omega (arith, ap length p.3, ap length (single is_atom no_function p.4), length-append p.0 r, length-append p.0 p.1)) (after_prefix t g r is cut begins);
  };
}

none_after : {labels : Labels} {t : Kind} {g : List Kind} → (t ≡ k.Open → ⊥) → atom labels t ≡ None → function t ≡ None → After labels t g → ⊥
none_after shut no_atom no_function (alone y found none) = none-some y (sym no_atom ∙ found)
none_after shut no_atom no_function (in_parens y shown text) = shut shown
none_after shut no_atom no_function (of_call f xs found text) = none-some f (sym no_function ∙ found)

-- a token that begins no primary
pub leaf_missing : {labels : Labels} {ts us : List Kind} (t : Kind) → ts ≡ t ∷ us → (t ≡ k.Open → ⊥) → atom labels t ≡ None → function t ≡ None → Missing (Derives labels rule.Primary) ts (length ts)
leaf_missing {labels = labels} t is shut no_atom no_function = record {
  none = λ g r y cut text. let p = after_text t g r y is cut text in none_after shut no_atom no_function p.2;
  reach = reach_nil (derives_nothing labels rule.Primary)
      (λ g r cut begins. ⊎_elim (λ none. none) (λ p. absurd (none_after shut no_atom no_function p.4)) (after_prefix t g r is cut begins));
}

-- no tokens
pub nothing_missing : {labels : Labels} (ts : List Kind) → length ts ≡ 0 → Missing (Derives labels rule.Primary) ts (length ts)
nothing_missing {labels = labels} (t ∷ ts) none = absurd (omega (arith, none))
nothing_missing {labels = labels} [] none = record {
  none = λ g r y cut text. some_token (primary_texts text) (empty g r cut);
  reach = reach_nil (derives_nothing labels rule.Primary) (λ g r cut begins. empty g r cut);
}
  where
    empty : (g r : List Kind) → [] ≡ g ++ r → g ≡ []
    empty [] r cut = refl
    empty (t ∷ g) r cut = cc
