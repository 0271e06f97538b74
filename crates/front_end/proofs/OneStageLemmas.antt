-- The two stages that models and properties share tell one thing at most.
use Rattle.std.proofs.Common.{◌≡◌, ℕ, List, arith, refl, sym, ◌∙◌, ap}
use Rattle.std.specs.Prelude.{Result, Ok, Err}
use Rattle.prism_syntax.specs.declared.tokens.Token.{Token}
use Rattle.prism_syntax.specs.Outcome.{IsFaultOf}
use Rattle.prism_lexer.specs.declared.fault.LexFault.{LexFault}
use Rattle.prism_lexer.specs.declared.fault.LexFault.TheVariants as lex
use Rattle.prism_lexer.specs.Outcome.{Tells, IsOutOfMemory}
use Rattle.prism_lexer.proofs.AnswerLemmas.{one_outcome}
use Rattle.prism_parser.specs.declared.fault.ParseFault.{ParseFault}
use Rattle.smc_report.specs.declared.reason.Reason.{Reason}
use Rattle.smc_report.specs.declared.reason.Reason.TheVariants as reason
use Rattle.smc_report.specs.declared.reason.Subject.{Subject}
use Rattle.front_end.specs.Stages.{CutTells, IsLexFault, is_long, is_not_cut, is_cut}
use Rattle.front_end.proofs.StageOrderLemmas.{TellsOne}

-- an outcome of the lexer, with the reason for a fault
abbrev cut_outcome : Subject → Result (List Token) LexFault → Result (List Token) Reason
cut_outcome about (Ok tokens) = Ok tokens
cut_outcome about (Err fault) = Err (reason.Lex about fault)

-- a fault of cutting is an outcome of the lexer, and no want of memory
lex_outcome : (text : List ℕ) (fault : LexFault) → IsLexFault text fault → Tells text (Err fault) × (IsFaultOf {T = List Token} IsOutOfMemory (Err fault) → ⊥)
lex_outcome text lex.TooMany is = (is, λ out. out)
lex_outcome text (lex.BadByte at) is = (is, λ out. out)
lex_outcome text (lex.NumberTooWide at) is = (is, λ out. out)
lex_outcome text (lex.OutOfMemory error) is = absurd is

-- cutting a text
pub cut_one : (about : Subject) (most : ℕ) (text : List ℕ) → TellsOne (CutTells about most text)
cut_one about most text _ _ (is_long x) (is_long y) = refl
cut_one about most text _ _ (is_long x) (is_not_cut within y) = absurd (omega (arith, x, within))
cut_one about most text _ _ (is_long x) (is_cut within y) = absurd (omega (arith, x, within))
cut_one about most text _ _ (is_not_cut within x) (is_long y) = absurd (omega (arith, y, within))
cut_one about most text _ _ (is_cut within x) (is_long y) = absurd (omega (arith, y, within))
cut_one about most text _ _ (is_not_cut {fault = f} within x) (is_not_cut {fault = g} more y) =
    let a = lex_outcome text f x in
    let b = lex_outcome text g y in
    ap (cut_outcome about) (one_outcome text (Err f) (Err g) a.0 b.0 a.1 b.1)
cut_one about most text _ _ (is_not_cut {fault = f} within x) (is_cut {tokens = us} more y) =
    let a = lex_outcome text f x in
    ap (cut_outcome about) (one_outcome text (Err f) (Ok us) a.0 y a.1 (λ out. out))
cut_one about most text _ _ (is_cut {tokens = ts} within x) (is_not_cut {fault = g} more y) =
    let b = lex_outcome text g y in
    ap (cut_outcome about) (one_outcome text (Ok ts) (Err g) x b.0 (λ out. out) b.1)
cut_one about most text _ _ (is_cut {tokens = ts} within x) (is_cut {tokens = us} more y) =
    ap (cut_outcome about) (one_outcome text (Ok ts) (Ok us) x y (λ out. out) (λ out. out))

-- an answer of a parser, with the reason for a refusal
abbrev parse_outcome : {X : Type 0} → Subject → Result X ParseFault → Result X Reason
parse_outcome about (Ok tree) = Ok tree
parse_outcome about (Err fault) = Err (reason.Parse about fault)

-- what parsing tells, with the reason for a refusal
pub record IsParsed {X : Type 0} (about : Subject) (Parses : Result X ParseFault → Type 0) (answer : Result X Reason) : Type 0 where
  pub parsed : Result X ParseFault
  pub told : Parses parsed
  pub is : answer ≡ parse_outcome about parsed

pub parsed_one : {X : Type 0} (about : Subject) {Parses : Result X ParseFault → Type 0} → TellsOne Parses → TellsOne (IsParsed about Parses)
parsed_one about one a b x y = x.is ∙ (ap (parse_outcome about) (one x.parsed y.parsed x.told y.told) ∙ sym y.is)
