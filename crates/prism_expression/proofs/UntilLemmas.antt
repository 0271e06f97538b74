-- A text of a level up to a token that ends it.
use Rattle.std.proofs.Common.{◌≡◌, ℕ, false, List, [], ◌∷◌, ◌++◌, length, refl, sym, ap, ◌∙◌, subst, ◌⊎◌, inl, inr, ⊎_elim}
use Rattle.std.proofs.lemmas.List.{append_assoc, append-nil}
use Rattle.prism_syntax.specs.declared.labels.Labels.{Labels}
use Rattle.prism_syntax.specs.declared.tokens.Kind.{Kind}
use Rattle.prism_syntax.specs.declared.tokens.Token.{Token}
use Rattle.prism_syntax.specs.declared.expressions.Expr.{Expr}
use Rattle.prism_syntax.specs.declared.precedence.Precedence.{Precedence}
use Rattle.prism_syntax.specs.Tokens.{kinds}
use Rattle.prism_syntax.specs.Expressions.{Derives}
use Rattle.prism_reading.specs.Reach.{IsPrefix}
use Rattle.prism_reading.specs.Reading.{Anything, Parses}
use Rattle.prism_reading.specs.Sequences.{Ended, ended}
use Rattle.prism_reading.proofs.ReachLemmas.{reach_same, cut_twice, heads, tails}
use Rattle.prism_reading.proofs.DefiniteLemmas.{Agrees}
use Rattle.prism_expression.specs.Follow.{goes_on}
use Rattle.prism_expression.specs.Longest.{IsLongest}
use Rattle.prism_expression.proofs.RankLemmas.{false_true}
use Rattle.prism_expression.proofs.TwoTextLemmas.{regroup}
use Rattle.prism_expression.proofs.CompareLemmas.{agreed}
use Rattle.prism_expression.proofs.FoundLemmas.{Found, Missing, Cut, cut_on, longest_found, longest_cut, closed_parses}
use Rattle.prism_expression.proofs.NextLemmas.{stopped_text}

-- two texts up to the token at the front of one list are the same
pub until_agrees : {labels : Labels} (l : Precedence) (t : Kind) → goes_on l t ≡ false → Agrees (Ended (Derives labels l) t) Anything
until_agrees {labels = labels} l t stops a b r s x y first second before after equal = of a b x y first second equal
  where
    of : (f g : List Kind) (u v : Expr) → Ended (Derives labels l) t f u → Ended (Derives labels l) t g v → f ++ r ≡ g ++ s → (r ≡ s) × (u ≡ v)
    of f g u v (ended {a = c} one) (ended {a = d} other) same =
        let both = agreed one other (regroup c (t ∷ []) r d (t ∷ []) s same) stops stops in
        (tails both.1, both.2)

-- a prefix of such a text ends inside the text of the level, or is the whole
until_prefix : {labels : Labels} {l : Precedence} {t : Kind} {g : List Kind} {y : Expr} (f more : List Kind) → Ended (Derives labels l) t g y → f ++ more ≡ g
    → IsPrefix (Derives labels l) f ⊎ ((a : List Kind) × (z : Expr) × (f ≡ a ++ (t ∷ [])) × Derives labels l a z)
until_prefix {labels = labels} {l = l} {t = t} f more (ended {a = a} {x = x} text) equal =
    ⊎_elim (λ within. inl (record { more = within.0; tree = x; text = subst (λ v. Derives labels l v x) within.1 text }))
    (λ beyond. over beyond.0 beyond.1 beyond.2) (cut_twice f more a (t ∷ []) equal)
  where
    over : (c : List Kind) → f ≡ a ++ c → t ∷ [] ≡ c ++ more → IsPrefix (Derives labels l) f ⊎ ((b : List Kind) × (z : Expr) × (f ≡ b ++ (t ∷ [])) × Derives labels l b z)
    over [] is last = inl (record { more = []; tree = x; text = subst (λ v. Derives labels l v x) (sym (append-nil a) ∙ sym is ∙ sym (append-nil f)) text })
    over (u ∷ []) is last = inr (a, x, is ∙ ap (λ v. a ++ (v ∷ [])) (sym (heads last)), text)
    over (u ∷ (v ∷ c)) is last = absurd (let none : [] ≡ v ∷ (c ++ more) = tails last in cc)

-- what begins a text of the level begins one up to the token
level_begins : {labels : Labels} {l : Precedence} (t : Kind) {f : List Kind} → IsPrefix (Derives labels l) f → IsPrefix (Ended (Derives labels l) t) f
level_begins {labels = labels} {l = l} t {f = f} begins = record {
  more = begins.more ++ (t ∷ []);
  tree = begins.tree;
  text = subst (λ v. Ended (Derives labels l) t v begins.tree) (append_assoc f begins.more (t ∷ [])) (ended begins.text);
}

-- where no text of the level stands, none stands up to the token
pub until_missing : {labels : Labels} {l : Precedence} (t : Kind) {ts : List Kind} {n : ℕ} → Missing (Derives labels l) ts n → Missing (Ended (Derives labels l) t) ts n
until_missing {labels = labels} {l = l} t {ts = ts} none = record {
  none = λ f r y is text. no_text f r y is text;
  reach = reach_same (λ f begins. level_begins t begins)
      (λ f r is begins. ⊎_elim (λ inside. inside) (λ whole. absurd (none.none whole.0 ((t ∷ []) ++ r) whole.1 (is ∙ ap (λ v. v ++ r) whole.2 ∙ append_assoc whole.0 (t ∷ []) r) whole.3))
      (until_prefix f begins.more begins.text refl)) none.reach;
}
  where
    no_text : (f r : List Kind) (y : Expr) → ts ≡ f ++ r → Ended (Derives labels l) t f y → ⊥
    no_text f r y is (ended {a = a} text) = none.none a ((t ∷ []) ++ r) y (is ∙ append_assoc a (t ∷ []) r) text

-- where the token does not follow the longest text, none stands up to the token
pub until_open : {labels : Labels} {l : Precedence} (t : Kind) {ts rest : List Kind} {x : Expr} {n : ℕ} → goes_on l t ≡ false → Found (Derives labels l) ts x rest n
    → ((r : List Kind) → rest ≡ t ∷ r → ⊥) → Missing (Ended (Derives labels l) t) ts n
until_open {labels = labels} {l = l} t {ts = ts} {rest = rest} stops told other = record {
  none = λ f r y is text. no_text f r y is text;
  reach = reach_same (λ f begins. level_begins t begins)
      (λ f r is begins. ⊎_elim (λ inside. inside) (λ whole. absurd (at whole.0 r whole.1 (is ∙ ap (λ v. v ++ r) whole.2 ∙ append_assoc whole.0 (t ∷ []) r) whole.3))
      (until_prefix f begins.more begins.text refl)) told.reach;
}
  where
    at : (a r : List Kind) (y : Expr) → ts ≡ a ++ (t ∷ r) → Derives labels l a y → ⊥
    at a r y is text = other r (stopped_text a r t y told text is (λ goes. false_true (sym stops ∙ goes))).0

    no_text : (f r : List Kind) (y : Expr) → ts ≡ f ++ r → Ended (Derives labels l) t f y → ⊥
    no_text f r y is (ended {a = a} text) = at a r y (is ∙ append_assoc a (t ∷ []) r) text

-- where it follows, that is the text
pub until_parses : {labels : Labels} {l : Precedence} (t : Kind) {tokens rest after : List Token} {x : Expr} {n : ℕ} → goes_on l t ≡ false → IsLongest (Derives labels l) tokens x rest n
    → Cut rest after → kinds rest ≡ t ∷ kinds after → Parses (Ended (Derives labels l) t) Anything tokens x after (length after)
until_parses {l = l} t {after = after} stops told cut is =
    let found = longest_found told in
    closed_parses (found.front ++ (t ∷ [])) (until_agrees l t stops) (cut_on (longest_cut told) cut)
    (found.cut ∙ ap (λ v. found.front ++ v) is ∙ sym (append_assoc found.front (t ∷ []) (kinds after))) (ended found.text)
