-- The status of a refusal is its number's hundreds.
use Rattle.std.proofs.Common.{◌≡◌, ℕ, ◌/◌, Option, Some, None, refl, ap, ◌∙◌, arith}
use Rattle.prism_lexer.specs.declared.fault.LexFault.{LexFault}
use Rattle.prism_lexer.specs.declared.fault.LexFault.TheVariants as lex
use Rattle.prism_parser.specs.declared.fault.ParseFault.{ParseFault}
use Rattle.prism_parser.specs.declared.fault.ParseFault.TheVariants as parse
use Rattle.module_expand.specs.declared.fault.ExpandFault.{ExpandFault}
use Rattle.module_expand.specs.declared.fault.ExpandFault.TheVariants as expand
use Rattle.const_eval.specs.declared.fault.ConstFault.{ConstFault}
use Rattle.const_eval.specs.declared.fault.ConstFault.TheVariants as const
use Rattle.typecheck.specs.declared.fault.TypeFault.{TypeFault}
use Rattle.typecheck.specs.declared.fault.TypeFault.TheVariants as type
use Rattle.run_goal.specs.declared.fault.SettingsFault.{SettingsFault}
use Rattle.run_goal.specs.declared.fault.SettingsFault.TheVariants as settings
use Rattle.smc_report.specs.declared.reason.Subject.{Subject}
use Rattle.smc_report.specs.declared.reason.Subject.TheVariants as subject
use Rattle.smc_report.specs.declared.reason.Reason.{Reason}
use Rattle.smc_report.specs.declared.reason.Reason.TheVariants as reason
use Rattle.smc_report.specs.Refusals.{Row, lex_row, parse_row, expand_row, const_row, type_row, settings_row, row_for, row_of, number_in, status_for, status_of}

-- the number of a row, if there is one, has these hundreds
abbrev HasHundreds : ℕ → Option Row → Type 0
HasHundreds hundreds None = Unit {0}
HasHundreds hundreds (Some r) = r.number / 100 ≡ hundreds

-- a text that is not cut into tokens
lex_hundreds : (fault : LexFault) → HasHundreds 5 (lex_row fault)
lex_hundreds (lex.BadByte at) = refl
lex_hundreds (lex.NumberTooWide at) = refl
lex_hundreds lex.TooMany = refl
lex_hundreds (lex.OutOfMemory error) = tt

-- tokens that are refused
parse_hundreds : (fault : ParseFault) → HasHundreds 5 (parse_row fault)
parse_hundreds (parse.Unsupported word at) = refl
parse_hundreds (parse.TooDeep at) = refl
parse_hundreds (parse.NotInGrammar at) = refl
parse_hundreds (parse.OutOfMemory error) = tt

-- a model that has no flat text
expand_hundreds : (fault : ExpandFault) → HasHundreds 5 (expand_row fault)
expand_hundreds (expand.Duplicate name) = refl
expand_hundreds (expand.FormulaCycle name) = refl
expand_hundreds (expand.NoSuchModule name) = refl
expand_hundreds (expand.RenameLeavesVariable name) = refl
expand_hundreds (expand.RenameTwice name) = refl
expand_hundreds expand.TooLarge = refl
expand_hundreds (expand.RenameToFormula name) = refl
expand_hundreds (expand.OutOfMemory error) = tt

-- constants without values
const_hundreds : (fault : ConstFault) → HasHundreds 5 (const_row fault)
const_hundreds (const.Undefined name) = refl
const_hundreds (const.Unknown name) = refl
const_hundreds (const.GivenTwice name) = refl
const_hundreds (const.Cycle name) = refl
const_hundreds (const.WrongType name) = refl
const_hundreds (const.Num name fault) = refl
const_hundreds (const.OutOfMemory error) = tt

-- a text that has no type
type_hundreds : (fault : TypeFault) → HasHundreds 5 (type_row fault)
type_hundreds (type.UnknownName name) = refl
type_hundreds (type.UnknownLabel name) = refl
type_hundreds (type.WrongType item) = refl
type_hundreds (type.BadNumber item fault) = refl
type_hundreds (type.BadRange name) = refl
type_hundreds (type.InitOutside name) = refl
type_hundreds (type.ForeignWrite name) = refl
type_hundreds (type.GlobalInSync name) = refl
type_hundreds (type.WrittenTwice name) = refl
type_hundreds type.TooLarge = refl
type_hundreds type.BadHorizon = refl
type_hundreds (type.OutOfMemory error) = tt

-- settings that make no goal
settings_hundreds : (fault : SettingsFault) → HasHundreds 7 (settings_row fault)
settings_hundreds (settings.Theta theta) = refl
settings_hundreds (settings.Delta delta) = refl
settings_hundreds (settings.ErrorOutside alpha beta) = refl
settings_hundreds (settings.ErrorSum alpha beta) = refl
settings_hundreds (settings.Denominator number) = refl
settings_hundreds (settings.Plan n c) = refl

-- a refusal of the property has one hundred more than that of the model
text_hundreds : (text : Subject) (found : Option Row) → HasHundreds 5 found
    → HasHundreds (status_for text) (row_for text found)
text_hundreds subject.Model None five = tt
text_hundreds subject.Model (Some r) five = five
text_hundreds subject.Property None five = tt
text_hundreds subject.Property (Some r) five = omega (arith, five)

-- every reason
reason_hundreds : (why : Reason) → HasHundreds (status_of why) (row_of why)
reason_hundreds reason.Usage = refl
reason_hundreds reason.ReadFault = refl
reason_hundreds (reason.TooLong subject.Model) = refl
reason_hundreds (reason.TooLong subject.Property) = refl
reason_hundreds (reason.Lex text fault) = text_hundreds text (lex_row fault) (lex_hundreds fault)
reason_hundreds (reason.Parse text fault) = text_hundreds text (parse_row fault) (parse_hundreds fault)
reason_hundreds (reason.Expand text fault) = text_hundreds text (expand_row fault) (expand_hundreds fault)
reason_hundreds (reason.Const fault) = const_hundreds fault
reason_hundreds (reason.Type text fault) = text_hundreds text (type_row fault) (type_hundreds fault)
reason_hundreds (reason.Settings fault) = settings_hundreds fault

-- the hundreds of a row's number
number_hundreds : (hundreds number : ℕ) (found : Option Row)
    → HasHundreds hundreds found → number_in found ≡ Some number
    → number / 100 ≡ hundreds
number_hundreds hundreds number None has is = cc
number_hundreds hundreds number (Some r) has is =
    let same : number ≡ r.number = cc in
    ap (λ n. n / 100) same ∙ has

-- the status of a refusal is its number's hundreds
pub status_is : (why : Reason) (number : ℕ) → number_in (row_of why) ≡ Some number → number / 100 ≡ status_of why
status_is why number is = number_hundreds (status_of why) number (row_of why) (reason_hundreds why) is
