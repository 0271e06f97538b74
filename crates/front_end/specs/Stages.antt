-- The two stages that models and properties share: a text is cut into tokens, and the tokens are a text of the grammar.
use Rattle.std.specs.Prelude.{ℕ, ◌<◌, ◌≤◌, List, Result, Ok, Err, length}
use Rattle.prism_syntax.specs.declared.tokens.Token.{Token}
use Rattle.prism_syntax.specs.declared.models.ModelText.{ModelText}
use Rattle.prism_syntax.specs.declared.properties.Property.{Property}
use Rattle.prism_syntax.specs.Tokens.{kinds}
use Rattle.prism_syntax.specs.Models.{IsModel}
use Rattle.prism_syntax.specs.Properties.{IsProperty}
use Rattle.prism_lexer.specs.declared.fault.LexFault.{LexFault}
use Rattle.prism_lexer.specs.declared.fault.LexFault.TheVariants.{TooMany, BadByte, NumberTooWide, OutOfMemory}
use Rattle.prism_lexer.specs.Outcome.{IsCutInto, HasTooMany, HasBadByte, HasWideNumber}
use Rattle.prism_limits.specs.declared.kinds.TextKind.TheVariants as kind
use Rattle.prism_parser.specs.declared.fault.ParseFault.{ParseFault}
use Rattle.prism_parser.specs.Models.{HasLongModel}
use Rattle.prism_parser.specs.Outcome.{IsNoText, RanOut, Tells}
use Rattle.prop_parser.specs.Properties.{HasLongProperty}
use Rattle.smc_report.specs.declared.reason.Subject.{Subject}
use Rattle.smc_report.specs.declared.reason.Reason.{Reason}
use Rattle.smc_report.specs.declared.reason.Reason.TheVariants.{TooLong, Lex}

-- a text is not cut into tokens, for this fault
abbrev pub IsLexFault : List ℕ → LexFault → Type 0
IsLexFault text TooMany = HasTooMany text
IsLexFault text (BadByte at) = HasBadByte text at
IsLexFault text (NumberTooWide at) = HasWideNumber text at
IsLexFault text (OutOfMemory error) = ⊥

-- what cutting a text of at most so many bytes tells: its tokens, or the reason to refuse the text
pub data CutTells (subject : Subject) (most : ℕ) (text : List ℕ) : Result (List Token) Reason → Type 0 where
  is_long : most < length text → CutTells subject most text (Err (TooLong subject))
  is_not_cut : {fault : LexFault} → length text ≤ most → IsLexFault text fault → CutTells subject most text (Err (Lex subject fault))
  is_cut : {tokens : List Token} → length text ≤ most → IsCutInto text tokens → CutTells subject most text (Ok tokens)

-- what parsing a model tells: the tree, or the first refusal; want of memory is none
abbrev pub ParsesModel : List Token → Result ModelText ParseFault → Type 0
ParsesModel tokens answer =
    Tells kind.Model (IsModel (kinds tokens)) HasLongModel (IsNoText IsModel (kinds tokens)) tokens 0 answer × ¬ RanOut answer

-- what parsing a property tells: the tree, or the first refusal; want of memory is none
abbrev pub ParsesProperty : List Token → Result Property ParseFault → Type 0
ParsesProperty tokens answer =
    Tells kind.Property (IsProperty (kinds tokens)) HasLongProperty (IsNoText IsProperty (kinds tokens)) tokens 0 answer × ¬ RanOut answer
