-- Why tokens are refused, and where, from a token's index on. `Found` says of a tree that the grammar has it for
-- them, `Failed` that it has none and how many tokens are left from the first wrong one on, and `Long` that a chain
-- of a tree has two or more arrows.
use Rattle.std.specs.Prelude.{◌≡◌, ◌+◌, ◌-◌, ℕ, List, codes, drop, length, Some, slice_get}
use Rattle.prism_syntax.specs.declared.labels.Labels.{Labels}
use Rattle.prism_syntax.specs.declared.labels.Labels.TheVariants.{Allowed, Refused}
use Rattle.prism_syntax.specs.declared.tokens.Kind.{Kind}
use Rattle.prism_syntax.specs.declared.tokens.Token.{Token}
use Rattle.prism_syntax.specs.Tokens.{kinds}
use Rattle.prism_limits.specs.declared.kinds.TextKind.{TextKind}
use Rattle.prism_limits.specs.declared.kinds.TextKind.TheVariants.{Model, Property, Nested}
use Rattle.prism_limits.specs.Places.{IsFirst}
use Rattle.prism_limits.specs.Words.{HasRefusedWord, word_of}
use Rattle.prism_limits.specs.Nesting.{IsTooDeep}
use Rattle.prism_limits.specs.Arrows.{IsLaterArrow}
use Rattle.prism_parser.specs.Places.{place_of}

-- whether the expressions of a text may name labels: not in a model
abbrev pub labels_of : TextKind → Labels
labels_of Model = Refused
labels_of Property = Allowed
labels_of Nested = Allowed

-- no word is refused by name, and nothing is nested too deep
pub record IsAllowed (text : TextKind) (tokens : List Kind) : Type 0 where
  pub words : (index : ℕ) → HasRefusedWord text tokens index → ⊥
  pub nesting : (index : ℕ) → IsTooDeep text tokens index → ⊥

-- this word, at this place, is the first that is refused by name
pub record RefusesWord (text : TextKind) (tokens : List Token) (start : ℕ) (word : List ℕ) (at : ℕ) : Type 0 where
  pub index : ℕ
  pub first : IsFirst (HasRefusedWord text (kinds (drop start tokens))) index
  pub token : Token
  pub stands : slice_get tokens (start + index) ≡ Some token
  pub word_is : word_of token.kind ≡ word
  pub place : token.from ≡ at

-- no word is refused by name, and this is the first place at which the text is nested too deep
pub record RefusesNesting (text : TextKind) (tokens : List Token) (start at : ℕ) : Type 0 where
  pub words : (index : ℕ) → HasRefusedWord text (kinds (drop start tokens)) index → ⊥
  pub index : ℕ
  pub first : IsFirst (IsTooDeep text (kinds (drop start tokens))) index
  pub place : place_of tokens (start + index) ≡ at

-- the tokens are allowed, and the grammar has no tree for them; the place is that of the first wrong token, or the
-- end of the text
pub record RefusesGrammar (text : TextKind) (Failed : ℕ → Type 0) (tokens : List Token) (start at : ℕ) : Type 0 where
  pub allowed : IsAllowed text (kinds (drop start tokens))
  pub left : ℕ
  pub failed : Failed left
  pub place : place_of tokens (length tokens - left) ≡ at

-- the tokens are allowed and have a tree, of which a chain has two or more arrows, and at this place is the first
-- arrow that has another one of its chain before it
pub record RefusesArrow {X : Type 0} (text : TextKind) (Found Long : X → Type 0) (tokens : List Token) (start at : ℕ) : Type 0 where
  pub allowed : IsAllowed text (kinds (drop start tokens))
  pub tree : X
  pub found : Found tree
  pub long : Long tree
  pub index : ℕ
  pub first : IsFirst (IsLaterArrow (labels_of text) (kinds (drop start tokens))) index
  pub place : place_of tokens (start + index) ≡ at

-- a word is refused: one that is refused by name, or the arrow `=>` in a chain that has another one before it
pub data IsUnsupported {X : Type 0} (text : TextKind) (Found Long : X → Type 0) (tokens : List Token) (start : ℕ) : List ℕ → ℕ → Type 0 where
  by_name : {word : List ℕ} {at : ℕ} → RefusesWord text tokens start word at
      → IsUnsupported text Found Long tokens start word at
  arrow : {at : ℕ} → RefusesArrow text Found Long tokens start at
      → IsUnsupported text Found Long tokens start (codes "=>") at

-- the tokens have this tree, and nothing is refused
pub record IsAccepted {X : Type 0} (text : TextKind) (Found Long : X → Type 0) (tokens : List Token) (start : ℕ) (tree : X) : Type 0 where
  pub allowed : IsAllowed text (kinds (drop start tokens))
  pub found : Found tree
  pub short : Long tree → ⊥
