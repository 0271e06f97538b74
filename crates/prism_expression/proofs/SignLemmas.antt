-- The signs at the front of some tokens, and the operand after them.
use Rattle.std.proofs.Common.{◌≡◌, ℕ, ◌+◌, ◌≤◌, true, List, [], ◌∷◌, ◌++◌, length, refl, sym, ap, ◌∙◌, subst, ◌⊎◌, inl, inr, arith}
use Rattle.std.proofs.lemmas.List.{append_assoc, append-nil, length-append}
use Rattle.prism_syntax.specs.declared.labels.Labels.{Labels}
use Rattle.prism_syntax.specs.declared.tokens.Kind.{Kind}
use Rattle.prism_syntax.specs.declared.tokens.Token.{Token}
use Rattle.prism_syntax.specs.declared.expressions.Expr.{Expr}
use Rattle.prism_syntax.specs.declared.precedence.Precedence.{Precedence}
use Rattle.prism_syntax.specs.Tokens.{kinds}
use Rattle.prism_syntax.specs.Precedence.{inner, is_prefix, is_sign, signed}
use Rattle.prism_syntax.specs.Expressions.{Derives, bare, sign}
use Rattle.prism_reading.specs.Reach.{IsPrefix}
use Rattle.prism_reading.specs.Reading.{Anything, Fails}
use Rattle.prism_reading.proofs.ReachLemmas.{heads, tails}
use Rattle.prism_expression.specs.Longest.{IsLongest}
use Rattle.prism_expression.specs.Parts.{BeginsWith, BeginsWithout, AreSigns, BeginsWithSigns, wrapped}
use Rattle.prism_expression.proofs.RankLemmas.{prefix_binds, sign_prefix}
use Rattle.prism_expression.proofs.TextLemmas.{PrefixText, bare_text, sign_text, prefix_texts}
use Rattle.prism_expression.proofs.TwoTextLemmas.{no_sign_first}
use Rattle.prism_expression.proofs.FoundLemmas.{Found, Missing, Behind, behind_found, behind_missing, cut_on, longest_found, longest_cut, found_longest, fails_missing, missing_fails}
use Rattle.prism_expression.proofs.NextLemmas.{without_kinds}

-- one more sign after some
signs_more : (l : Precedence) (ts : List Token) (t : Token) → AreSigns l ts → is_sign l t.kind ≡ true → AreSigns l (ts ++ (t ∷ []))
signs_more l [] t all is = (is, tt)
signs_more l (u ∷ us) t all is = (all.0, signs_more l us t all.1 is)

-- signs that have been passed, and the tokens that follow
abbrev pub SignsSoFar : Precedence → List Token → List Token → Type 0
SignsSoFar l tokens rest = (prefix : List Token) × (tokens ≡ prefix ++ rest) × AreSigns l prefix

-- none have been passed at first
pub signs_none : (l : Precedence) (tokens : List Token) → SignsSoFar l tokens tokens
signs_none l tokens = ([], refl, tt)

-- a further sign is passed
pub signs_passed : (l : Precedence) (tokens rest after : List Token) → SignsSoFar l tokens rest → BeginsWith (λ t. is_sign l t ≡ true) rest after → SignsSoFar l tokens after
signs_passed l tokens rest after passed next = (
  passed.0 ++ (next.first ∷ []),
  passed.1 ∙ ap (λ z. passed.0 ++ z) next.cut ∙ sym (append_assoc passed.0 (next.first ∷ []) after),
  signs_more l passed.0 next.first passed.2 next.is,
)

-- the signs up to the first token that is none
pub signs_all : (l : Precedence) (tokens rest : List Token) (count : ℕ) → SignsSoFar l tokens rest → BeginsWithout (λ t. is_sign l t ≡ true) rest → length tokens ≡ count + length rest → BeginsWithSigns l tokens count rest
signs_all l tokens rest count passed ends whole = record {
  prefix = passed.0;
  cut = passed.1;
  many = omega (arith, whole, ap length passed.1, length-append passed.0 rest);
  signs = passed.2;
  ends = ends;
}

-- a text that begins with a sign has a text of its level after it
signed_text : {labels : Labels} {l : Precedence} {ts us : List Kind} (t : Kind) (f r : List Kind) (y : Expr) → is_sign l t ≡ true → ts ≡ t ∷ us → ts ≡ f ++ r → PrefixText labels l f y
    → (g : List Kind) × (x : Expr) × (us ≡ g ++ r) × Derives labels l g x
signed_text {l = l} {us = us} t f r y is_true is cut (bare_text other) = absurd (no_sign_first other l t r us is_true (prefix_binds l (sign_prefix l t is_true)) (sym cut ∙ is))
signed_text t f r y is_true is cut (sign_text {a = a} {x = x} is_one other) = (a, x, tails (sym is ∙ cut), other)

-- a prefix that begins with a sign has a prefix of a text after it
signed_prefix : {labels : Labels} {l : Precedence} {g : List Kind} {y : Expr} (t : Kind) (f more : List Kind) → is_sign l t ≡ true → PrefixText labels l g y → t ∷ (f ++ more) ≡ g → IsPrefix (Derives labels l) f
signed_prefix {l = l} t f more is_true (bare_text {a = a} other) is =
    absurd (no_sign_first other l t [] (f ++ more) is_true (prefix_binds l (sign_prefix l t is_true)) (append-nil a ∙ sym is))
signed_prefix {labels = labels} {l = l} t f more is_true (sign_text {a = a} {x = x} is_one other) is = record { more = more; tree = x; text = subst (λ v. Derives labels l v x) (sym (tails is)) other }

-- a text of the level behind a sign
sign_behind : {labels : Labels} {l : Precedence} {ts us : List Kind} (t : Kind) → is_sign l t ≡ true → ts ≡ t ∷ us → Behind (Derives labels l) (Derives labels l) (signed l) ts us
sign_behind {labels = labels} {l = l} {ts = ts} {us = us} t is_true is = record {
  before = t ∷ [];
  cut = is;
  up = λ g x text. sign is_true text;
  texts = λ f r y cut text. inr (signed_text t f r y is_true is cut (prefix_texts (sign_prefix l t is_true) text));
  prefixes = λ f r cut begins. prefixes f r cut begins;
}
  where
    prefixes : (f r : List Kind) → ts ≡ f ++ r → IsPrefix (Derives labels l) f → (length us ≤ length r) ⊎ ((g : List Kind) × (us ≡ g ++ r) × IsPrefix (Derives labels l) g)
    prefixes [] r cut begins = inl (omega (arith, ap length cut, ap length is))
    prefixes (u ∷ f) r cut begins =
        let both : t ∷ us ≡ u ∷ (f ++ r) = sym is ∙ cut in
        inr (f, tails both, signed_prefix t f begins.more is_true (prefix_texts (sign_prefix l t is_true) begins.text) (ap (λ v. v ∷ (f ++ begins.more)) (heads both)))

-- an operand that no sign begins
bare_behind : {labels : Labels} {l : Precedence} {ts : List Kind} → is_prefix l ≡ true → ((t : Kind) (r : List Kind) → ts ≡ t ∷ r → is_sign l t ≡ true → ⊥)
    → Behind (Derives labels (inner l)) (Derives labels l) (λ x. x) ts ts
bare_behind {labels = labels} {l = l} {ts = ts} is_true none = record {
  before = [];
  cut = refl;
  up = λ g x text. bare is_true text;
  texts = λ f r y cut text. inr (whole f r y cut (prefix_texts is_true text));
  prefixes = λ f r cut begins. prefixes f r cut begins;
}
  where
    whole : (f r : List Kind) (y : Expr) → ts ≡ f ++ r → PrefixText labels l f y → (g : List Kind) × (x : Expr) × (ts ≡ g ++ r) × Derives labels (inner l) g x
    whole f r y cut (bare_text other) = (f, y, cut, other)
    whole f r y cut (sign_text {t = t} {a = a} is_one other) = absurd (none t (a ++ r) cut is_one)

    inside : {g : List Kind} {y : Expr} (t : Kind) (f more r : List Kind) → ts ≡ t ∷ (f ++ r) → PrefixText labels l g y → t ∷ (f ++ more) ≡ g → IsPrefix (Derives labels (inner l)) (t ∷ f)
    inside {y = y} t f more r cut (bare_text {a = a} other) is = record { more = more; tree = y; text = subst (λ v. Derives labels (inner l) v y) (sym is) other }
    inside t f more r cut (sign_text is_one other) is = absurd (none _ (f ++ r) (cut ∙ ap (λ v. v ∷ (f ++ r)) (heads is)) is_one)

    prefixes : (f r : List Kind) → ts ≡ f ++ r → IsPrefix (Derives labels l) f → (length ts ≤ length r) ⊎ ((g : List Kind) × (ts ≡ g ++ r) × IsPrefix (Derives labels (inner l)) g)
    prefixes [] r cut begins = inl (omega (arith, ap length cut))
    prefixes (t ∷ f) r cut begins = inr (t ∷ f, cut, inside t f begins.more r cut (prefix_texts is_true begins.text) refl)

-- signs before a text of their level
signs_found : {labels : Labels} {l : Precedence} {rest : List Kind} {x : Expr} {n : ℕ} (front tokens : List Token) → AreSigns l front → Found (Derives labels l) (kinds tokens) x rest n
    → Found (Derives labels l) (kinds (front ++ tokens)) (wrapped l (length front) x) rest n
signs_found [] tokens all told = told
signs_found (t ∷ ts) tokens all told = behind_found (sign_behind t.kind all.0 refl) (signs_found ts tokens all.1 told)

-- signs before no text of their level
signs_missing : {labels : Labels} {l : Precedence} {n : ℕ} (front tokens : List Token) → AreSigns l front → Missing (Derives labels l) (kinds tokens) n → Missing (Derives labels l) (kinds (front ++ tokens)) n
signs_missing [] tokens all none = none
signs_missing {l = l} (t ∷ ts) tokens all none =
    behind_missing (sign_behind t.kind all.0 refl) (λ f r y cut text. signed_text t.kind f r y all.0 refl cut (prefix_texts (sign_prefix l t.kind all.0) text)) (signs_missing ts tokens all.1 none)

-- the operand after all signs
pub signed_found : {labels : Labels} {l m : Precedence} {tokens rest after : List Token} {count left : ℕ} {x tree : Expr} → is_prefix l ≡ true → m ≡ inner l → tree ≡ wrapped l count x
    → BeginsWithSigns l tokens count rest → IsLongest (Derives labels m) rest x after left → IsLongest (Derives labels l) tokens tree after left
signed_found {labels = labels} {l = l} {tokens = tokens} {rest = rest} {after = after} {left = left} {x = x} {tree = tree} is_true level_is tree_is passed told =
    let inside : Found (Derives labels (inner l)) (kinds rest) x (kinds after) left = subst (λ v. Found (Derives labels v) (kinds rest) x (kinds after) left) level_is (longest_found told) in
    let whole : Found (Derives labels l) (kinds (passed.prefix ++ rest)) (wrapped l (length passed.prefix) x) (kinds after) left =
    signs_found passed.prefix rest passed.signs (behind_found (bare_behind is_true (without_kinds (λ t. is_sign l t ≡ true) rest passed.ends)) inside) in
    let same : tree ≡ wrapped l (length passed.prefix) x = tree_is ∙ ap (λ n. wrapped l n x) (sym passed.many) in
    found_longest (cut_on (passed.prefix, passed.cut) (longest_cut told))
    (subst (λ v. Found (Derives labels l) (kinds v) tree (kinds after) left) (sym passed.cut) (subst (λ v. Found (Derives labels l) (kinds (passed.prefix ++ rest)) v (kinds after) left) (sym same) whole))

-- and no operand after them
pub signed_missing : {labels : Labels} {l m : Precedence} {tokens rest : List Token} {count : ℕ} → is_prefix l ≡ true → m ≡ inner l → BeginsWithSigns l tokens count rest
    → (left : ℕ) → Fails (Derives labels m) Anything rest left → Fails (Derives labels l) Anything tokens left
signed_missing {labels = labels} {l = l} {rest = rest} is_true level_is passed left fails =
    let inside : Missing (Derives labels (inner l)) (kinds rest) left = subst (λ v. Missing (Derives labels v) (kinds rest) left) level_is (fails_missing fails) in
    missing_fails (subst (λ v. Missing (Derives labels l) (kinds v) left) (sym passed.cut)
    (signs_missing passed.prefix rest passed.signs (behind_missing (bare_behind is_true (without_kinds (λ t. is_sign l t ≡ true) rest passed.ends)) (λ f r y cut text. whole f r y cut (prefix_texts is_true text)) inside)))
  where
    whole : (f r : List Kind) (y : Expr) → kinds rest ≡ f ++ r → PrefixText labels l f y → (g : List Kind) × (x : Expr) × (kinds rest ≡ g ++ r) × Derives labels (inner l) g x
    whole f r y cut (bare_text other) = (f, y, cut, other)
    whole f r y cut (sign_text {t = t} {a = a} is_one other) = absurd (without_kinds (λ t. is_sign l t ≡ true) rest passed.ends t (a ++ r) cut is_one)
