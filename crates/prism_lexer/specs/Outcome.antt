-- What cutting a text into tokens tells of it.
use Rattle.std.specs.Prelude.{◌≡◌, ◌≢◌, ◌<◌, ◌≤◌, ℕ, List, [], ◌∷◌, ◌++◌, length, IsTrue, Option, None, Result, Ok, Err}
use Rattle.std.specs.declared.vec.Vec.{Vec}
use Rattle.std.specs.declared.alloc.Global.{Global}
use Rattle.prism_syntax.specs.declared.tokens.Kind.{Kind}
use Rattle.prism_syntax.specs.declared.tokens.Token.{Token}
use Rattle.prism_syntax.specs.Tokens.{IsToken, IsFirstToken, BeginsNoComment, is_blank, Reads, AreTokensOf}
use Rattle.prism_lexer.specs.declared.fault.LexFault.{LexFault}
use Rattle.prism_lexer.specs.declared.fault.LexFault.TheVariants.{TooMany, BadByte, NumberTooWide, OutOfMemory}

-- neither a blank nor a comment begins a text
pub record StandsClear (text : List ℕ) : Type 0 where
  pub no_blank : (c : ℕ) (rest : List ℕ) → text ≡ c ∷ rest → IsTrue (is_blank c) → ⊥
  pub no_comment : BeginsNoComment text

-- no token begins a text
abbrev pub BeginsNoToken : List ℕ → Type 0
BeginsNoToken text = (front after : List ℕ) (kind : Option Kind) → text ≡ front ++ after → IsToken front kind → ⊥

-- the most tokens that a text may have
abbrev pub token_limit : ℕ
token_limit = 262144

-- the text is cut into these tokens, which are not too many
pub record IsCutInto (text : List ℕ) (tokens : List Token) : Type 0 where
  pub cut : AreTokensOf text tokens
  pub room : length tokens ≤ token_limit

-- as many tokens as there may be are read, and another one follows
pub record HasTooMany (text : List ℕ) : Type 0 where
  pub tokens : List Token
  pub at : ℕ
  pub rest : List ℕ
  pub read : Reads 0 text tokens at rest
  pub full : length tokens ≡ token_limit
  pub clear : StandsClear rest
  pub more : BeginsNoToken rest → ⊥

-- after tokens that are not too many no token begins at this place, and the text goes on
pub record HasBadByte (text : List ℕ) (at : ℕ) : Type 0 where
  pub tokens : List Token
  pub rest : List ℕ
  pub read : Reads 0 text tokens at rest
  pub room : length tokens ≤ token_limit
  pub some : rest ≢ []
  pub clear : StandsClear rest
  pub none : BeginsNoToken rest

-- where another token may follow, the one at this place is a number that is too wide
pub record HasWideNumber (text : List ℕ) (at : ℕ) : Type 0 where
  pub tokens : List Token
  pub rest : List ℕ
  pub bytes : List ℕ
  pub after : List ℕ
  pub read : Reads 0 text tokens at rest
  pub room : length tokens < token_limit
  pub clear : StandsClear rest
  pub wide : IsFirstToken rest bytes None after

-- an answer is true of the text; want of memory tells nothing
abbrev pub Tells : List ℕ → Result (List Token) LexFault → Type 0
Tells text (Ok tokens) = IsCutInto text tokens
Tells text (Err TooMany) = HasTooMany text
Tells text (Err (BadByte at)) = HasBadByte text at
Tells text (Err (NumberTooWide at)) = HasWideNumber text at
Tells text (Err (OutOfMemory fault)) = Unit {0}

-- memory ran out
abbrev pub IsOutOfMemory : LexFault → Type 0
IsOutOfMemory (OutOfMemory fault) = Unit {0}
IsOutOfMemory _ = ⊥

-- the answer is these tokens, unless memory ran out
abbrev pub Gives : Result (Vec Token Global) LexFault → List Token → Type 0
Gives (Ok v) tokens = v.items ≡ tokens
Gives (Err (OutOfMemory fault)) tokens = Unit {0}
Gives (Err _) tokens = ⊥
