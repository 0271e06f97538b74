-- Where arrows stand in a list of tokens, and what follows them.
use Rattle.std.proofs.Common.{◌≡◌, Bool, true, false, List, [], ◌∷◌, ◌++◌, ◌⊎◌, inl, inr, sym, ap, subst, ◌∙◌}
use Rattle.std.proofs.lemmas.List.{append_assoc}
use Rattle.prism_syntax.specs.declared.labels.Labels.{Labels}
use Rattle.prism_syntax.specs.declared.tokens.Kind.{Kind}
use Rattle.prism_syntax.specs.declared.tokens.Kind.TheVariants as k
use Rattle.prism_syntax.specs.declared.expressions.Expr.{Expr}
use Rattle.prism_syntax.specs.declared.precedence.Precedence.TheVariants as rule
use Rattle.prism_syntax.specs.Expressions.{Derives}
use Rattle.prism_expression.specs.Follow.{Ends}
use Rattle.prism_expression.proofs.RankLemmas.{false_true}
use Rattle.prism_expression.proofs.TwoTextLemmas.{heads, tails}
use Rattle.prism_limits.specs.ChainWalk.{is_arrow, begins_arrow}

-- an arrow stands in the tokens, and the rest of them after it
abbrev pub HasArrow : List Kind → List Kind → Type 0
HasArrow ks rest = (before : List Kind) × (ks ≡ before ++ (k.Implies ∷ rest))

-- after an arrow come an operand and then what cannot go on it, and where this begins with another arrow something is true
pub record AfterArrow (q : Labels) (Long : Type 0) (rest : List Kind) : Type 0 where
  pub operand : List Kind
  pub tail : List Kind
  pub tree : Expr
  pub cut : rest ≡ operand ++ tail
  pub text : Derives q rule.Equivalence operand tree
  pub ends : Ends rule.Equivalence tail
  pub long : begins_arrow tail ≡ true → Long

-- what is true of one thing is true of another that follows from it
pub after_raised : {q : Labels} {S T : Type 0} {rest : List Kind} → (S → T) → AfterArrow q S rest → AfterArrow q T rest
after_raised tell after = record {
  operand = after.operand;
  tail = after.tail;
  tree = after.tree;
  cut = after.cut;
  text = after.text;
  ends = after.ends;
  long = λ begins. tell (after.long begins);
}

-- no arrow stands in no tokens
pub no_arrow : (rest : List Kind) → HasArrow [] rest → ⊥
no_arrow rest ([], cut) = absurd (cc)
no_arrow rest (t ∷ before, cut) = absurd (cc)

-- an arrow of two parts stands in the first, and the second argument comes after its rest, or it stands in the second
abbrev pub StandsInParts : List Kind → List Kind → List Kind → Type 0
StandsInParts a b rest = ((inner : List Kind) × HasArrow a inner × (rest ≡ inner ++ b)) ⊎ HasArrow b rest

-- so it is with one more token before the first argument
parts_cons : (t : Kind) (a b rest : List Kind) → StandsInParts a b rest → StandsInParts (t ∷ a) b rest
parts_cons t a b rest (inl (inner, (before, cut), is)) = inl (inner, (t ∷ before, ap (λ z. t ∷ z) cut), is)
parts_cons t a b rest (inr arrow) = inr arrow

arrow_append : (a b rest : List Kind) → HasArrow (a ++ b) rest → StandsInParts a b rest
arrow_append [] b rest arrow = inr arrow
arrow_append (t ∷ a) b rest ([], cut) = inl (a, ([], ap (λ u. u ∷ a) (heads cut)), sym (tails cut))
arrow_append (t ∷ a) b rest (u ∷ before, cut) = parts_cons t a b rest (arrow_append a b rest (before, tails cut))

-- what comes after an arrow of two parts is known where it is known in each argument
pub in_parts : {q : Labels} {S : Type 0} (a b after rest : List Kind) → HasArrow (a ++ b) rest
    → ((inner : List Kind) → HasArrow a inner → AfterArrow q S (inner ++ (b ++ after))) → ((inner : List Kind) → HasArrow b inner → AfterArrow q S (inner ++ after))
    → AfterArrow q S (rest ++ after)
in_parts {q = q} {S = S} a b after rest arrow first second = told (arrow_append a b rest arrow)
  where
    told : StandsInParts a b rest → AfterArrow q S (rest ++ after)
    told (inl (inner, here, is)) = subst (AfterArrow q S) (sym (ap (λ z. z ++ after) is ∙ append_assoc inner b after)) (first inner here)
    told (inr there) = second rest there

-- and where it is known of the first token and in the others
pub in_cons : {q : Labels} {S : Type 0} (t : Kind) (ks after rest : List Kind) → HasArrow (t ∷ ks) rest
    → (t ≡ k.Implies → AfterArrow q S (ks ++ after)) → ((inner : List Kind) → HasArrow ks inner → AfterArrow q S (inner ++ after))
    → AfterArrow q S (rest ++ after)
in_cons {q = q} {S = S} t ks after rest ([], cut) here there = subst (λ z. AfterArrow q S (z ++ after)) (tails cut) (here (heads cut))
in_cons t ks after rest (u ∷ before, cut) here there = there rest (before, tails cut)

-- and where the first token is no arrow, in the others
pub in_tail : {q : Labels} {S : Type 0} (t : Kind) (ks after rest : List Kind) → HasArrow (t ∷ ks) rest → is_arrow t ≡ false
    → ((inner : List Kind) → HasArrow ks inner → AfterArrow q S (inner ++ after)) → AfterArrow q S (rest ++ after)
in_tail t ks after rest arrow other there = in_cons t ks after rest arrow (λ is. absurd (false_true (sym other ∙ ap is_arrow is))) there

-- no arrow stands in one token that is none
pub in_one : {q : Labels} {S : Type 0} (t : Kind) (after rest : List Kind) → HasArrow (t ∷ []) rest → is_arrow t ≡ false → AfterArrow q S (rest ++ after)
in_one t after rest arrow other = in_tail t [] after rest arrow other (λ inner nothing. absurd (no_arrow inner nothing))
