-- What is known of a text of a grammar, part by part: the trees of two arrows of one chain in it, and of its well-formed tokens.
use Rattle.std.proofs.Common.{◌≡◌, ℕ, ◌⊎◌, inl, inr, ⊎_elim, true, false, List, [], ◌∷◌, ◌++◌, refl}
use Rattle.std.specs.Prelude.{All}
use Rattle.std.proofs.lemmas.List.Elements.{All-head, All-tail}
use Rattle.prism_syntax.specs.declared.labels.Labels.TheVariants.{Refused}
use Rattle.prism_syntax.specs.declared.tokens.Kind.{Kind}
use Rattle.prism_syntax.specs.declared.tokens.Kind.TheVariants as k
use Rattle.prism_syntax.specs.declared.expressions.Expr.{Expr}
use Rattle.prism_syntax.specs.declared.precedence.Precedence.TheVariants as rule
use Rattle.prism_syntax.specs.Expressions.{IsExpr}
use Rattle.prism_syntax.specs.WellFormed.{IsFormedKind, IsFormedName, IsPlain}
use Rattle.prism_expression.specs.Follow.{goes_on}
use Rattle.prism_expression.proofs.FormedLemmas.{all_front, all_rest}
use Rattle.prism_limits.specs.Arrows.{HasLongChain}
use Rattle.prism_limits.specs.ChainWalk.{is_arrow}
use Rattle.prism_limits.proofs.ArrowPlaceLemmas.{HasArrow, AfterArrow, after_raised, no_arrow, in_parts, in_tail}
use Rattle.prism_limits.proofs.LaterArrowLemmas.{after_text}
use Rattle.prism_limits.proofs.TwoArrowLemmas.{HasTwoArrows, two_front, two_rest, two_tail, text_arrows}
use Rattle.prism_limits.proofs.OthersLemmas.{is_other, are_others, others_cons, others_append, text_others}
use Rattle.prism_parser.proofs.TextLemmas.{text_formed}

-- of some tokens: the word `rewards` is none of them; after an arrow of theirs comes an operand, and where another arrow follows this, the tree is long; where it is long, two arrows of one chain stand in them; and where it is not, the tree of well-formed tokens is good
pub record Known (tokens : List Kind) (Long Good : Type 0) : Type 0 where
  pub others : are_others tokens ≡ true
  pub after : (more rest : List Kind) → HasArrow tokens rest → AfterArrow Refused Long (rest ++ more)
  pub two : Long → HasTwoArrows Refused tokens
  pub formed : All IsFormedKind tokens → (Long → ⊥) → Good

-- of no tokens
pub known_none : Known [] ⊥ (Unit {0})
known_none = record { others = refl; after = λ more rest arrow. absurd (no_arrow rest arrow); two = λ long. absurd long; formed = λ all short. tt }

-- what is as long, and good where the one is
pub known_raised : {ks : List Kind} {L M G H : Type 0} → (L → M) → (M → L) → (G → H) → Known ks L G → Known ks M H
known_raised raise lower good known = record {
  others = known.others;
  after = λ more rest arrow. after_raised raise (known.after more rest arrow);
  two = λ long. known.two (lower long);
  formed = λ all short. good (known.formed all (λ long. short (raise long)));
}

-- two parts
pub known_both : {L M G H : Type 0} (a b : List Kind) → Known a L G → Known b M H → Known (a ++ b) (L ⊎ M) (G × H)
known_both a b one two = record {
  others = others_append a b one.others two.others;
  after = λ more rest arrow.
      in_parts a b more rest arrow (λ inner here. after_raised inl (one.after (b ++ more) inner here)) (λ inner there. after_raised inr (two.after more inner there));
  two = λ long. ⊎_elim (λ here. two_front b (one.two here)) (λ there. two_rest a (two.two there)) long;
  formed = λ all short. (one.formed (all_front IsFormedKind a b all) (λ long. short (inl long)), two.formed (all_rest IsFormedKind a b all) (λ long. short (inr long)));
}

-- one more token before the others, with what is good of it
known_first : {L G H : Type 0} (t : Kind) (ks : List Kind) → is_arrow t ≡ false → is_other t ≡ true → (IsFormedKind t → G → H) → Known ks L G → Known (t ∷ ks) L H
known_first t ks arrow other good known = record {
  others = others_cons t ks other known.others;
  after = λ more rest stands. in_tail t ks more rest stands arrow (λ inner there. known.after more inner there);
  two = λ long. two_tail t (known.two long);
  formed = λ all short. good (All-head IsFormedKind t ks all) (known.formed (All-tail IsFormedKind t ks all) short);
}

-- a token of which nothing else is known
pub known_then : {L G : Type 0} {ks : List Kind} (t : Kind) → is_arrow t ≡ false → is_other t ≡ true → Known ks L G → Known (t ∷ ks) L G
known_then {ks = ks} t arrow other known = known_first t ks arrow other (λ formed good. good) known

-- a name
pub known_name : {L G : Type 0} {ks : List Kind} (n : List ℕ) → Known ks L G → Known (k.Name n ∷ ks) L (IsFormedName n × G)
known_name {ks = ks} n known = known_first (k.Name n) ks refl refl (λ formed good. (formed, good)) known

-- a quoted name
pub known_quoted : {L G : Type 0} {ks : List Kind} (n : List ℕ) → Known ks L G → Known (k.Quoted n ∷ ks) L (IsFormedKind (k.Quoted n) × G)
known_quoted {ks = ks} n known = known_first (k.Quoted n) ks refl refl (λ formed good. (formed, good)) known

-- the last token
pub known_end : (t : Kind) → is_arrow t ≡ false → is_other t ≡ true → Known (t ∷ []) ⊥ (Unit {0})
known_end t arrow other = known_then t arrow other known_none

-- the one of two that can be
pub left_only : {L : Type 0} → L ⊎ ⊥ → L
left_only (inl long) = long
left_only (inr never) = absurd never

-- a part and the token that ends it
pub known_ended : {L G : Type 0} (a : List Kind) (t : Kind) → is_arrow t ≡ false → is_other t ≡ true → Known a L G → Known (a ++ (t ∷ [])) L G
known_ended a t arrow other known = known_raised left_only inl (λ good. good.0) (known_both a (t ∷ []) known (known_end t arrow other))

-- an expression, the token that ends it, and the tokens after it
pub known_until : {L G : Type 0} {a ks : List Kind} {x : Expr} (t : Kind) → goes_on rule.Conditional t ≡ false → is_arrow t ≡ false → is_other t ≡ true
    → IsExpr Refused a x → Known ks L G → Known (a ++ (t ∷ ks)) (HasLongChain x ⊎ L) (IsPlain x × G)
known_until {a = a} {ks = ks} t ends arrow other text known = record {
  others = others_append a (t ∷ ks) (text_others text) (others_cons t ks other known.others);
  after = λ more rest stands.
      in_parts a (t ∷ ks) more rest stands
      (λ inner here. after_raised inl (after_text ((t ∷ ks) ++ more) inner text ends here))
      (λ outer beyond. in_tail t ks more outer beyond arrow (λ inner there. after_raised inr (known.after more inner there)));
  two = λ long. ⊎_elim (λ here. two_front (t ∷ ks) (text_arrows text here)) (λ there. two_rest a (two_tail t (known.two there))) long;
  formed = λ all short.
      let back = All-tail IsFormedKind t ks (all_rest IsFormedKind a (t ∷ ks) all) in
      (text_formed text (all_front IsFormedKind a (t ∷ ks) all) (λ long. short (inl long)), known.formed back (λ long. short (inr long)));
}
