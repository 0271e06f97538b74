-- The parts of conditionals and calls as rules of their own, and what single tokens stand before a part.
use Rattle.std.specs.Prelude.{◌≡◌, ℕ, zero, suc, ◌+◌, List, [], ◌∷◌, ◌++◌, length, true}
use Rattle.prism_syntax.specs.declared.labels.Labels.{Labels}
use Rattle.prism_syntax.specs.declared.tokens.Kind.{Kind}
use Rattle.prism_syntax.specs.declared.tokens.Kind.TheVariants as k
use Rattle.prism_syntax.specs.declared.tokens.Token.{Token}
use Rattle.prism_syntax.specs.declared.expressions.Expr.{Expr}
use Rattle.prism_syntax.specs.declared.expressions.Func.{Func}
use Rattle.prism_syntax.specs.declared.precedence.Precedence.{Precedence}
use Rattle.prism_syntax.specs.declared.precedence.Precedence.TheVariants as rule
use Rattle.prism_syntax.specs.Precedence.{is_sign, signed, takes}
use Rattle.prism_syntax.specs.Expressions.{Derives, Arguments}

-- the two branches of a conditional, from its `?` on
pub data IsBranches (labels : Labels) : List Kind → Expr × Expr → Type 0 where
  branches : {b c : List Kind} {y z : Expr} → Derives labels rule.Implication b y → Derives labels rule.Conditional c z
      → IsBranches labels (k.Query ∷ (b ++ (k.Colon ∷ c))) (y, z)

-- the further arguments of a call after so many, up to its `)`, where the function takes them all
pub data IsRest (labels : Labels) (f : Func) (before : ℕ) : List Kind → List Expr → Type 0 where
  rest : {b : List Kind} {ys : List Expr} → takes f (before + length ys) ≡ true → Arguments labels b ys → IsRest labels f before (b ++ (k.Close ∷ [])) ys

-- the arguments of a call, from the token after its `(` on up to its `)`
pub data IsArguments (labels : Labels) (f : Func) : List Kind → List Expr → Type 0 where
  arguments : {a b : List Kind} {x : Expr} {ys : List Expr} → Derives labels rule.Conditional a x → IsRest labels f 0 b ys
      → IsArguments labels f (a ++ b) (x ∷ ys)

-- the arguments of a call with its `(` before them
pub data IsCalled (labels : Labels) (f : Func) : List Kind → List Expr → Type 0 where
  called : {a : List Kind} {xs : List Expr} → IsArguments labels f a xs → IsCalled labels f (k.Open ∷ a) xs

-- the first token is of such a kind, and the rest follows it
pub record BeginsWith (Is : Kind → Type 0) (tokens rest : List Token) : Type 0 where
  pub first : Token
  pub cut : tokens ≡ first ∷ rest
  pub is : Is first.kind

-- the tokens do not begin with one of such a kind
abbrev pub BeginsWithout : (Kind → Type 0) → List Token → Type 0
BeginsWithout Is tokens = (first : Token) (rest : List Token) → tokens ≡ first ∷ rest → Is first.kind → ⊥

-- each of the tokens is a sign of the level
abbrev pub AreSigns : Precedence → List Token → Type 0
AreSigns l [] = Unit {0}
AreSigns l (t ∷ ts) = (is_sign l t.kind ≡ true) × AreSigns l ts

-- the tokens begin with so many signs of the level, and no further one
pub record BeginsWithSigns (l : Precedence) (tokens : List Token) (count : ℕ) (rest : List Token) : Type 0 where
  pub prefix : List Token
  pub cut : tokens ≡ prefix ++ rest
  pub many : length prefix ≡ count
  pub signs : AreSigns l prefix
  pub ends : BeginsWithout (λ t. is_sign l t ≡ true) rest

-- a tree with so many signs of a level before it
abbrev pub wrapped : Precedence → ℕ → Expr → Expr
wrapped l zero x = x
wrapped l (suc n) x = signed l (wrapped l n x)
