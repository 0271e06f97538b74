-- What the steps of parsing tell.
use Rattle.std.specs.Prelude.{◌≡◌, ◌+◌, ℕ, List, codes, drop, Some, Result, Ok, Err, slice_get}
use Rattle.prism_syntax.specs.declared.tokens.Kind.{Kind}
use Rattle.prism_syntax.specs.declared.tokens.Token.{Token}
use Rattle.prism_syntax.specs.Tokens.{kinds}
use Rattle.prism_limits.specs.declared.kinds.TextKind.{TextKind}
use Rattle.prism_limits.specs.Places.{IsFirst}
use Rattle.prism_limits.specs.Words.{word_of}
use Rattle.prism_limits.specs.Arrows.{IsLaterArrow}
use Rattle.prism_parser.specs.declared.fault.ParseFault.{ParseFault}
use Rattle.prism_parser.specs.declared.fault.ParseFault.TheVariants.{Unsupported, TooDeep, NotInGrammar, OutOfMemory}
use Rattle.prism_parser.specs.Places.{place_of}
use Rattle.prism_parser.specs.Refusals.{labels_of, IsAllowed, RefusesWord, RefusesNesting}

-- the token with this index was refused by its name, or memory ran out
abbrev pub RefusesToken : {X : Type 0} → List Token → ℕ → Result X ParseFault → Type 0
RefusesToken tokens index (Err (Unsupported word at)) =
    (token : Token) × (slice_get tokens index ≡ Some token) × (word_of token.kind ≡ word) × (token.from ≡ at)
RefusesToken tokens index (Err (OutOfMemory fault)) = Unit {0}
RefusesToken tokens index _ = ⊥

-- a token is refused by name, or is too deep, or memory ran out
abbrev pub RefusesTokens : TextKind → List Token → ℕ → ParseFault → Type 0
RefusesTokens text tokens start (Unsupported word at) = RefusesWord text tokens start word at
RefusesTokens text tokens start (TooDeep at) = RefusesNesting text tokens start at
RefusesTokens text tokens start (NotInGrammar at) = ⊥
RefusesTokens text tokens start (OutOfMemory fault) = Unit {0}

-- the tokens are allowed, or one of them is refused
abbrev pub TellsAllowed : {X : Type 0} → TextKind → List Token → ℕ → Result X ParseFault → Type 0
TellsAllowed text tokens start (Ok value) = IsAllowed text (kinds (drop start tokens))
TellsAllowed text tokens start (Err fault) = RefusesTokens text tokens start fault

-- the arrow with this index was refused, or memory ran out
abbrev pub IsArrowRefusal : {X : Type 0} → List Token → ℕ → Result X ParseFault → Type 0
IsArrowRefusal tokens index (Err (Unsupported word at)) = (word ≡ codes "=>") × (place_of tokens index ≡ at)
IsArrowRefusal tokens index (Err (OutOfMemory fault)) = Unit {0}
IsArrowRefusal tokens index _ = ⊥

-- the place of the first arrow in a prefix that has another one of its chain before it
pub record HasArrow (text : TextKind) (tokens : List Token) (start : ℕ) (prefix : List Kind) (at : ℕ) : Type 0 where
  pub index : ℕ
  pub first : IsFirst (IsLaterArrow (labels_of text) prefix) index
  pub place : place_of tokens (start + index) ≡ at

-- the first such arrow is refused, or memory ran out
abbrev pub RefusesChain : TextKind → List Token → ℕ → List Kind → ParseFault → Type 0
RefusesChain text tokens start prefix (Unsupported word at) = (word ≡ codes "=>") × HasArrow text tokens start prefix at
RefusesChain text tokens start prefix (OutOfMemory fault) = Unit {0}
RefusesChain text tokens start prefix _ = ⊥

-- no chain has a second arrow, or the first such arrow is refused
abbrev pub TellsChains : {X : Type 0} → TextKind → List Token → ℕ → List Kind → Result X ParseFault → Type 0
TellsChains text tokens start prefix (Ok value) = (index : ℕ) → IsLaterArrow (labels_of text) prefix index → ⊥
TellsChains text tokens start prefix (Err fault) = RefusesChain text tokens start prefix fault
