-- What the first two stages tell, from their clauses one by one.
use Rattle.std.proofs.Common.{◌≡◌, ℕ, List}
use Rattle.std.specs.Prelude.{IsSome, Result, Err}
use Rattle.prism_syntax.specs.declared.tokens.Token.{Token}
use Rattle.prism_lexer.specs.declared.fault.LexFault.{LexFault}
use Rattle.prism_lexer.specs.declared.fault.LexFault.TheVariants as lex
use Rattle.prism_lexer.specs.Outcome.{HasTooMany, HasBadByte, HasWideNumber}
use Rattle.prism_limits.specs.declared.kinds.TextKind.{TextKind}
use Rattle.prism_parser.specs.declared.fault.ParseFault.{ParseFault}
use Rattle.prism_parser.specs.declared.fault.ParseFault.TheVariants as parse
use Rattle.prism_parser.specs.Outcome.{RanOut, Tells}
use Rattle.prism_parser.specs.Refusals.{RefusesNesting, RefusesGrammar, IsUnsupported}
use Rattle.smc_report.specs.declared.reason.Reason.TheVariants as reason
use Rattle.smc_report.specs.declared.reason.Subject.{Subject}
use Rattle.smc_report.specs.Refusals.{row_of}
use Rattle.front_end.specs.Stages.{IsLexFault}

-- the fault of cutting a text
pub lex_told : {X : Type 0} (about : Subject) (text : List ℕ) (answer : Result X LexFault) (fault : LexFault) → answer ≡ Err fault
    → (answer ≡ Err lex.TooMany → HasTooMany text)
    → ((at : ℕ) → answer ≡ Err (lex.BadByte at) → HasBadByte text at)
    → ((at : ℕ) → answer ≡ Err (lex.NumberTooWide at) → HasWideNumber text at)
    → IsSome (row_of (reason.Lex about fault)) → IsLexFault text fault
lex_told about text answer lex.TooMany is too_many bad_byte too_wide row = too_many is
lex_told about text answer (lex.BadByte at) is too_many bad_byte too_wide row = bad_byte at is
lex_told about text answer (lex.NumberTooWide at) is too_many bad_byte too_wide row = too_wide at is
lex_told about text answer (lex.OutOfMemory error) is too_many bad_byte too_wide row = absurd (cc)

-- the fault of parsing tokens
pub parse_told : {X : Type 0} (about : Subject) (kind : TextKind) (Found Long : X → Type 0) (Failed : ℕ → Type 0) (tokens : List Token) (answer : Result X ParseFault) (fault : ParseFault)
    → answer ≡ Err fault
    → ((word : List ℕ) (at : ℕ) → answer ≡ Err (parse.Unsupported word at) → IsUnsupported kind Found Long tokens 0 word at)
    → ((at : ℕ) → answer ≡ Err (parse.TooDeep at) → RefusesNesting kind tokens 0 at)
    → ((at : ℕ) → answer ≡ Err (parse.NotInGrammar at) → RefusesGrammar kind Failed tokens 0 at)
    → IsSome (row_of (reason.Parse about fault))
    → Tells kind Found Long Failed tokens 0 (Err fault) × (RanOut {X = X} (Err fault) → ⊥)
parse_told about kind Found Long Failed tokens answer (parse.Unsupported word at) is unsupported deep grammar row = (unsupported word at is, λ out. out)
parse_told about kind Found Long Failed tokens answer (parse.TooDeep at) is unsupported deep grammar row = (deep at is, λ out. out)
parse_told about kind Found Long Failed tokens answer (parse.NotInGrammar at) is unsupported deep grammar row = (grammar at is, λ out. out)
parse_told about kind Found Long Failed tokens answer (parse.OutOfMemory error) is unsupported deep grammar row = absurd (cc)
