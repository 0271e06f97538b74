-- What each step of cutting a text keeps and tells.
use Rattle.std.specs.Prelude.{◌≡◌, ◌≤◌, ℕ, List, length, Bool, true, false, ◌+◌, Some, None, Result, Ok, Err}
use Rattle.std.specs.declared.vec.Vec.{Vec}
use Rattle.std.specs.declared.alloc.Global.{Global}
use Rattle.prism_syntax.specs.declared.tokens.Token.{Token}
use Rattle.prism_syntax.specs.Tokens.{IsFirstToken, Reads}
use Rattle.prism_lexer.specs.declared.fault.LexFault.{LexFault}
use Rattle.prism_lexer.specs.declared.fault.LexFault.TheVariants.{TooMany, BadByte, NumberTooWide, OutOfMemory}
use Rattle.prism_lexer.specs.Outcome.{StandsClear, BeginsNoToken, token_limit}

-- an answer with its tokens as a list
abbrev pub seen : Result (Vec Token Global) LexFault → Result (List Token) LexFault
seen (Ok v) = Ok v.items
seen (Err fault) = Err fault

-- the longest token at the front of a text that stands at this place, and what follows it
pub record IsNext (text : List ℕ) (at : ℕ) (token : Token) (after : List ℕ) : Type 0 where
  pub bytes : List ℕ
  pub first : IsFirstToken text bytes (Some token.kind) after
  pub from : token.from ≡ at
  pub to : token.to ≡ at + length bytes

-- the longest token at the front of a text is a number that is too wide
pub record IsWide (text : List ℕ) : Type 0 where
  pub bytes : List ℕ
  pub after : List ℕ
  pub first : IsFirstToken text bytes None after

-- why no token is taken from the front of a text, with or without room for another one
abbrev pub Refuses : List ℕ → ℕ → Bool → LexFault → Type 0
Refuses text at is_full TooMany = (is_full ≡ true) × (BeginsNoToken text → ⊥)
Refuses text at is_full (BadByte place) = (place ≡ at) × BeginsNoToken text
Refuses text at is_full (NumberTooWide place) = (place ≡ at) × (is_full ≡ false) × IsWide text
Refuses text at is_full (OutOfMemory fault) = Unit {0}

-- the tokens before the rest of a text, which begins with neither a blank nor a comment
pub record IsCutting (text : List ℕ) (tokens : List Token) (rest : List ℕ) : Type 0 where
  pub shorter : length rest ≤ length text
  pub read : (at : ℕ) → at + length rest ≡ length text → Reads 0 text tokens at rest
  pub room : length tokens ≤ token_limit
  pub clear : StandsClear rest
