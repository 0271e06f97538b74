-- The tree of well-formed tokens is well formed where no chain of it is long.
use Rattle.std.proofs.Common.{List, ◌∷◌, ◌++◌, refl, sym, ap, ◌∙◌}
use Rattle.std.specs.Prelude.{All}
use Rattle.prism_syntax.specs.declared.labels.Labels.{Labels}
use Rattle.prism_syntax.specs.declared.tokens.Kind.{Kind}
use Rattle.prism_syntax.specs.declared.tokens.Kind.TheVariants as k
use Rattle.prism_syntax.specs.declared.expressions.Expr.{Expr}
use Rattle.prism_syntax.specs.Expressions.{IsExpr}
use Rattle.prism_syntax.specs.WellFormed.{IsFormedKind, IsFormed}
use Rattle.prism_expression.proofs.FormedLemmas.{formed}
use Rattle.prism_limits.specs.Arrows.{HasLongChain}
use Rattle.prism_limits.proofs.OthersLemmas.{are_others, text_others, others_outside}
use Rattle.prism_limits.proofs.LaterArrowLemmas.{later_long}

-- an expression of well-formed tokens
pub text_formed : {labels : Labels} {ks : List Kind} {x : Expr} → IsExpr labels ks x → All IsFormedKind ks → (HasLongChain x → ⊥) → IsFormed labels x
text_formed text kinds short = formed text kinds (λ before operand after tree cut between.
    short (later_long text (record {
      before = before;
      operand = operand;
      after = after;
      tree = tree;
      cut = cut;
      count = refl;
      text = between;
      outside = others_outside before (k.Implies ∷ (operand ++ (k.Implies ∷ after))) (ap are_others (sym cut) ∙ text_others text);
    })))
