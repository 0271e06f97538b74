-- A truth value is a text of each level, so each level has one.
use Rattle.std.proofs.Common.{true, [], ◌∷◌, refl}
use Rattle.prism_syntax.specs.declared.labels.Labels.{Labels}
use Rattle.prism_syntax.specs.declared.tokens.Kind.TheVariants as k
use Rattle.prism_syntax.specs.declared.expressions.Expr.TheVariants as e
use Rattle.prism_syntax.specs.declared.precedence.Precedence.{Precedence}
use Rattle.prism_syntax.specs.declared.precedence.Precedence.TheVariants as rule
use Rattle.prism_syntax.specs.Expressions.{Derives, chain, bare, plain, leaf, end}
use Rattle.prism_reading.specs.Reach.{IsPrefix}
use Rattle.prism_reading.proofs.DefiniteLemmas.{HasText}

product : {labels : Labels} → Derives labels rule.Product (k.True ∷ []) (e.Truth true)
product = chain refl (bare refl (leaf refl)) end

relation : {labels : Labels} → Derives labels rule.Relation (k.True ∷ []) (e.Truth true)
relation = chain refl (chain refl product end) end

conjunction : {labels : Labels} → Derives labels rule.Conjunction (k.True ∷ []) (e.Truth true)
conjunction = chain refl (bare refl (chain refl relation end)) end

equivalence : {labels : Labels} → Derives labels rule.Equivalence (k.True ∷ []) (e.Truth true)
equivalence = chain refl (chain refl conjunction end) end

-- `true` is a text of each level
pub truth : {labels : Labels} (l : Precedence) → Derives labels l (k.True ∷ []) (e.Truth true)
truth rule.Conditional = plain (chain refl equivalence end)
truth rule.Implication = chain refl equivalence end
truth rule.Equivalence = equivalence
truth rule.Disjunction = chain refl conjunction end
truth rule.Conjunction = conjunction
truth rule.Negation = bare refl (chain refl relation end)
truth rule.Equality = chain refl relation end
truth rule.Relation = relation
truth rule.Sum = chain refl product end
truth rule.Product = product
truth rule.Unary = bare refl (leaf refl)
truth rule.Primary = leaf refl

-- so each level has a text
pub derives_has : (labels : Labels) (l : Precedence) → HasText (Derives labels l)
derives_has labels l = record { tokens = k.True ∷ []; tree = e.Truth true; text = truth l }

-- and nothing is a prefix of one
pub derives_nothing : (labels : Labels) (l : Precedence) → IsPrefix (Derives labels l) []
derives_nothing labels l = record { more = k.True ∷ []; tree = e.Truth true; text = truth l }
