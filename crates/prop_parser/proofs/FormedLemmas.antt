-- A property of well-formed tokens is well formed.
use Rattle.std.proofs.Common.{inl, inr, List, [], ◌∷◌, ◌++◌, refl}
use Rattle.std.specs.Prelude.{All, Result, Ok, Err, IfOk}
use Rattle.std.proofs.lemmas.List.{append-nil}
use Rattle.std.proofs.lemmas.List.Elements.{All-head, All-tail, All-map}
use Rattle.prism_syntax.specs.declared.labels.Labels.TheVariants.{Allowed}
use Rattle.prism_syntax.specs.declared.tokens.Kind.{Kind}
use Rattle.prism_syntax.specs.declared.tokens.Kind.TheVariants as k
use Rattle.prism_syntax.specs.declared.tokens.Token.{Token}
use Rattle.prism_syntax.specs.declared.expressions.Expr.{Expr}
use Rattle.prism_syntax.specs.declared.precedence.Precedence.TheVariants as rule
use Rattle.prism_syntax.specs.declared.properties.Time.{Time}
use Rattle.prism_syntax.specs.declared.properties.PathText.{PathText}
use Rattle.prism_syntax.specs.declared.properties.Property.{Property}
use Rattle.prism_syntax.specs.Tokens.{kinds}
use Rattle.prism_syntax.specs.Expressions.{Derives, IsExpr, chain, bare, plain, end}
use Rattle.prism_syntax.specs.Properties as line
use Rattle.prism_syntax.specs.Properties.{IsTime, IsPath, IsProperty}
use Rattle.prism_syntax.specs.WellFormed.{IsFormedKind, IsFormed, IsFormedTime, IsFormedPath, IsFormedProperty}
use Rattle.prism_expression.proofs.FormedLemmas.{all_front, all_rest}
use Rattle.prism_limits.specs.declared.kinds.TextKind.TheVariants.{Property as ForProperty}
use Rattle.prism_limits.specs.Arrows.{in_paren}
use Rattle.prism_parser.specs.declared.fault.ParseFault.{ParseFault}
use Rattle.prism_parser.specs.Outcome.{IsNoText, Tells}
use Rattle.prism_parser.proofs.TextLemmas.{text_formed}
use Rattle.prop_parser.specs.Properties.{HasLongTime, HasLongPath, HasLongProperty}

-- a sum is an expression
sum_expr : {a : List Kind} {x : Expr} → Derives Allowed rule.Sum a x → IsExpr Allowed a x
sum_expr {a = a} {x = x} text =
    let raised : IsExpr Allowed ((((((a ++ []) ++ []) ++ []) ++ []) ++ []) ++ []) x = plain (chain refl (chain refl (chain refl (chain refl (bare refl (chain refl (chain refl text end) end)) end) end) end) end) in
    simp append-nil at raised

-- a time
time_formed : {ks : List Kind} {z : Time} → IsTime ks z → All IsFormedKind ks → (HasLongTime z → ⊥) → IsFormedTime z
time_formed (line.whole {t = t} {value = v} sign) all short = IsFormed.whole (All-head IsFormedKind (k.Whole v) [] (All-tail IsFormedKind t (k.Whole v ∷ []) all))
time_formed (line.name {t = t} {n = n} sign) all short = IsFormed.name (All-head IsFormedKind (k.Name n) [] (All-tail IsFormedKind t (k.Name n ∷ []) all))
time_formed (line.paren {t = t} {a = a} {x = x} sign text) all short =
    let inside = All-tail IsFormedKind k.Open (a ++ (k.Close ∷ [])) (All-tail IsFormedKind t (k.Open ∷ (a ++ (k.Close ∷ []))) all) in
    IsFormed.paren (text_formed text (all_front IsFormedKind a (k.Close ∷ []) inside) (λ long. short (in_paren x long)))

-- a path formula
path_formed : {ks : List Kind} {z : PathText} → IsPath ks z → All IsFormedKind ks → (HasLongPath z → ⊥) → IsFormedPath z
path_formed (line.next {a = a} text) all short = text_formed text (All-tail IsFormedKind k.X a all) short
path_formed (line.finally {a = a} {b = b} time text) all short =
    let parts = All-tail IsFormedKind k.F (a ++ b) all in
    (time_formed time (all_front IsFormedKind a b parts) (λ long. short (inl long)), text_formed text (all_rest IsFormedKind a b parts) (λ long. short (inr long)))
path_formed (line.globally {a = a} {b = b} time text) all short =
    let parts = All-tail IsFormedKind k.G (a ++ b) all in
    (time_formed time (all_front IsFormedKind a b parts) (λ long. short (inl long)), text_formed text (all_rest IsFormedKind a b parts) (λ long. short (inr long)))
path_formed (line.until {a = a} {b = b} {c = c} first time text) all short =
    let parts = All-tail IsFormedKind k.U (b ++ c) (all_rest IsFormedKind a (k.U ∷ (b ++ c)) all) in (
      text_formed first (all_front IsFormedKind a (k.U ∷ (b ++ c)) all) (λ long. short (inl long)),
      time_formed time (all_front IsFormedKind b c parts) (λ long. short (inr (inl long))),
      text_formed text (all_rest IsFormedKind b c parts) (λ long. short (inr (inr long))),
    )

-- a property
pub property_formed : {ks : List Kind} {z : Property} → IsProperty ks z → All IsFormedKind ks → (HasLongProperty z → ⊥) → IsFormedProperty z
property_formed (line.property {t = t} {a = a} {b = b} cmp bound path) all short =
    let parts = All-tail IsFormedKind t (a ++ (k.OpenBracket ∷ (b ++ (k.CloseBracket ∷ [])))) (All-tail IsFormedKind k.P (t ∷ (a ++ (k.OpenBracket ∷ (b ++ (k.CloseBracket ∷ []))))) all) in
    let inside = All-tail IsFormedKind k.OpenBracket (b ++ (k.CloseBracket ∷ [])) (all_rest IsFormedKind a (k.OpenBracket ∷ (b ++ (k.CloseBracket ∷ []))) parts) in
    record {
      bound = text_formed (sum_expr bound) (all_front IsFormedKind a (k.OpenBracket ∷ (b ++ (k.CloseBracket ∷ []))) parts) (λ long. short (inl long));
      path = path_formed path (all_front IsFormedKind b (k.CloseBracket ∷ []) inside) (λ long. short (inr long));
    }

-- what is told of well-formed tokens
pub told_formed : (tokens : List Token) (answer : Result Property ParseFault) → Tells ForProperty (IsProperty (kinds tokens)) HasLongProperty (IsNoText IsProperty (kinds tokens)) tokens 0 answer
    → All (λ token. IsFormedKind token.kind) tokens → IfOk answer IsFormedProperty
told_formed tokens (Ok tree) accepted formed = property_formed accepted.found (All-map IsFormedKind (λ token. token.kind) tokens formed) accepted.short
told_formed tokens (Err fault) told formed = tt
