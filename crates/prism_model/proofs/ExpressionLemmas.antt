-- Expressions with the token that ends them.
use Rattle.std.proofs.Common.{◌≡◌, List, [], ◌∷◌, ◌++◌, false, Some, refl, sym, ◌∙◌, append_assoc}
use Rattle.prism_syntax.specs.declared.labels.Labels.TheVariants.{Refused}
use Rattle.prism_syntax.specs.declared.tokens.Kind.{Kind}
use Rattle.prism_syntax.specs.declared.tokens.Kind.TheVariants as k
use Rattle.prism_syntax.specs.declared.expressions.Expr.{Expr}
use Rattle.prism_syntax.specs.declared.precedence.Precedence.TheVariants as rule
use Rattle.prism_syntax.specs.Precedence.{atom}
use Rattle.prism_syntax.specs.Expressions.{Derives, IsExpr}
use Rattle.prism_syntax.specs.Expressions.Derives.{chain, bare, plain, leaf, paren}
use Rattle.prism_syntax.specs.Expressions.ChainTail.{end}
use Rattle.prism_reading.specs.Reading.{Anything}
use Rattle.prism_reading.specs.Sequences.{ended}
use Rattle.prism_reading.proofs.DefiniteLemmas.{IsDefinite, HasText, closed}
use Rattle.prism_reading.proofs.OverlapLemmas.{tails}
use Rattle.prism_expression.specs.Follow.{goes_on}
use Rattle.prism_expression.proofs.CompareLemmas.{agreed}
use Rattle.prism_model.specs.Parts.{IsExprUntil}

ended_agree : (stop : Kind) (a b r s : List Kind) (x y : Expr) → goes_on rule.Conditional stop ≡ false → IsExprUntil stop a x → IsExprUntil stop b y → a ++ r ≡ b ++ s → (r ≡ s) × (x ≡ y)
ended_agree stop _ _ r s x y stops (ended {a} first) (ended {a = b} second) equal =
    let whole : a ++ (stop ∷ r) ≡ b ++ (stop ∷ s) = sym (append_assoc a (stop ∷ []) r) ∙ equal ∙ append_assoc b (stop ∷ []) s in
    let same = agreed first second whole stops stops in
    (tails same.1, same.2)

-- an expression up to a token that does not go on it is definite
pub until_definite : (stop : Kind) → goes_on rule.Conditional stop ≡ false → IsDefinite (IsExprUntil stop) Anything
until_definite stop stops = closed (λ a b r s x y first second _ _ equal. ended_agree stop a b r s x y stops first second equal)

-- a primary is an expression
pub of_primary : (a : List Kind) (x : Expr) → Derives Refused rule.Primary a x → IsExpr Refused (((((((((a ++ []) ++ []) ++ []) ++ []) ++ []) ++ []) ++ []) ++ [])) x
of_primary a x text = plain (chain refl (chain refl (chain refl (chain refl (bare refl (chain refl (chain refl (chain refl (chain refl (bare refl text) end) end) end) end)) end) end) end) end)

-- a token that is an expression by itself
pub atom_text : (t : Kind) (x : Expr) → atom Refused t ≡ Some x → IsExpr Refused (t ∷ []) x
atom_text t x is = of_primary (t ∷ []) x (leaf is)

-- such a token in parentheses
pub paren_text : (t : Kind) (x : Expr) → atom Refused t ≡ Some x → (y : Expr) × IsExpr Refused (k.Open ∷ (t ∷ (k.Close ∷ []))) y
paren_text t x is = (_, of_primary (k.Open ∷ (t ∷ (k.Close ∷ []))) _ (paren (atom_text t x is)))

-- there is one
pub until_has : (stop : Kind) → HasText (IsExprUntil stop)
until_has stop = record { tokens = k.True ∷ (stop ∷ []); tree = _; text = ended (atom_text k.True _ refl) }
