-- Rules that are made of others: single tokens, one rule after another, a rule with its end, one rule or another.
use Rattle.std.specs.Prelude.{◌⊎◌, ℕ, List, ◌++◌, ◌∷◌, []}
use mathlib.Core.Logic.{inl, inr}
use Rattle.prism_syntax.specs.declared.tokens.Kind.{Kind}
use Rattle.prism_syntax.specs.declared.tokens.Kind.TheVariants as k

-- the one token of this kind
pub data IsTerminal (kind : Kind) : List Kind → Unit {0} → Type 0 where
  terminal : IsTerminal kind (kind ∷ []) tt

-- a name
pub data IsName : List Kind → List ℕ → Type 0 where
  name : {text : List ℕ} → IsName (k.Name text ∷ []) text

-- the name of a label
pub data IsQuoted : List Kind → List ℕ → Type 0 where
  quoted : {text : List ℕ} → IsQuoted (k.Quoted text ∷ []) text

-- a text of one rule, and then one of another
pub data Both {X Y : Type 0} (First : List Kind → X → Type 0) (Second : List Kind → Y → Type 0) : List Kind → X × Y → Type 0 where
  both : {a b : List Kind} {x : X} {y : Y} → First a x → Second b y → Both First Second (a ++ b) (x, y)

-- a text of a rule, and then the one token that ends it
pub data Ended {X : Type 0} (Rule : List Kind → X → Type 0) (end : Kind) : List Kind → X → Type 0 where
  ended : {a : List Kind} {x : X} → Rule a x → Ended Rule end (a ++ (end ∷ [])) x

-- a text of one rule or of another
pub data OneOf {X Y : Type 0} (First : List Kind → X → Type 0) (Second : List Kind → Y → Type 0) : List Kind → X ⊎ Y → Type 0 where
  first : {a : List Kind} {x : X} → First a x → OneOf First Second a (inl x)
  second : {a : List Kind} {y : Y} → Second a y → OneOf First Second a (inr y)

-- a text of a rule, with a tree that is made from its tree
pub data Made {P Z : Type 0} (make : P → Z) (Parts : List Kind → P → Type 0) : List Kind → Z → Type 0 where
  made : {a : List Kind} {p : P} → Parts a p → Made make Parts a (make p)
