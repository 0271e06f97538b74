-- What each refusal is told as: its number and its text. A name is told as the input has it, a place by its byte.
-- Want of memory is no refusal, and has no row.
use Rattle.std.specs.Prelude.{ℕ, ◌+◌, List, ◌++◌, Option, Some, None, option_map, codes, decimal}
use Rattle.std.specs.Fmt.{signed_decimal}
use Rattle.smc_num.specs.declared.fault.NumFault.{NumFault}
use Rattle.smc_num.specs.declared.fault.NumFault.TheVariants as num
use Rattle.prism_lexer.specs.declared.fault.LexFault.{LexFault}
use Rattle.prism_lexer.specs.declared.fault.LexFault.TheVariants as lex
use Rattle.prism_parser.specs.declared.fault.ParseFault.{ParseFault}
use Rattle.prism_parser.specs.declared.fault.ParseFault.TheVariants as parse
use Rattle.module_expand.specs.declared.fault.ExpandFault.{ExpandFault}
use Rattle.module_expand.specs.declared.fault.ExpandFault.TheVariants as expand
use Rattle.const_eval.specs.declared.fault.ConstFault.{ConstFault}
use Rattle.const_eval.specs.declared.fault.ConstFault.TheVariants as const
use Rattle.typecheck.specs.declared.fault.Item.{Item}
use Rattle.typecheck.specs.declared.fault.Item.TheVariants as item
use Rattle.typecheck.specs.declared.fault.TypeFault.{TypeFault}
use Rattle.typecheck.specs.declared.fault.TypeFault.TheVariants as type
use Rattle.run_goal.specs.declared.fault.SettingsFault.{SettingsFault}
use Rattle.run_goal.specs.declared.fault.SettingsFault.TheVariants as settings
use Rattle.smc_report.specs.declared.reason.Subject.{Subject}
use Rattle.smc_report.specs.declared.reason.Subject.TheVariants as subject
use Rattle.smc_report.specs.declared.reason.Reason.{Reason}
use Rattle.smc_report.specs.declared.reason.Reason.TheVariants as reason
use Rattle.smc_report.specs.Texts.{fraction_text}

-- what a refusal is told as
pub record Row : Type 0 where
  pub number : ℕ
  pub text : List ℕ

-- the row with this number and this text
abbrev pub row : ℕ → List ℕ → Option Row
row number text = Some (record { number = number; text = text })

-- a text that is not cut into tokens
abbrev pub lex_row : LexFault → Option Row
lex_row (lex.BadByte at) = row 510 (codes "bad byte at " ++ decimal at)
lex_row (lex.NumberTooWide at) = row 511 (codes "number too wide at " ++ decimal at)
lex_row lex.TooMany = row 512 (codes "too many tokens")
lex_row (lex.OutOfMemory error) = None

-- tokens that are outside the grammar or its limits
abbrev pub parse_row : ParseFault → Option Row
parse_row (parse.Unsupported word at) = row 520 (codes "unsupported " ++ (word ++ (codes " at " ++ decimal at)))
parse_row (parse.TooDeep at) = row 521 (codes "too deep at " ++ decimal at)
parse_row (parse.NotInGrammar at) = row 522 (codes "not in the grammar at " ++ decimal at)
parse_row (parse.OutOfMemory error) = None

-- a model that has no flat text, or a property that is too large
abbrev pub expand_row : ExpandFault → Option Row
expand_row (expand.Duplicate name) = row 530 (codes "duplicate " ++ name)
expand_row (expand.FormulaCycle name) = row 531 (codes "formula cycle " ++ name)
expand_row (expand.NoSuchModule name) = row 532 (codes "no such module " ++ name)
expand_row (expand.RenameLeavesVariable name) = row 533 (codes "variable not renamed " ++ name)
expand_row (expand.RenameTwice name) = row 534 (codes "renamed twice " ++ name)
expand_row expand.TooLarge = row 535 (codes "too large after expansion")
expand_row (expand.RenameToFormula name) = row 536 (codes "renamed to formula " ++ name)
expand_row (expand.OutOfMemory error) = None

-- why an expression of constants has no number
abbrev pub num_text : NumFault → List ℕ
num_text num.ZeroDivisor = codes "zero divisor"
num_text num.OutsideDomain = codes "outside the domain"
num_text num.OutOfLimit = codes "out of limit"

-- constants without values
abbrev pub const_row : ConstFault → Option Row
const_row (const.Undefined name) = row 540 (codes "undefined constant " ++ name)
const_row (const.Unknown name) = row 541 (codes "unknown constant " ++ name)
const_row (const.GivenTwice name) = row 542 (codes "constant given twice " ++ name)
const_row (const.Cycle name) = row 543 (codes "constant cycle " ++ name)
const_row (const.WrongType name) = row 544 (codes "wrong type of constant " ++ name)
const_row (const.Num name fault) = row 545 (num_text fault ++ (codes " in constant " ++ name))
const_row (const.OutOfMemory error) = None

-- what a refusal speaks of
abbrev pub item_text : Item → List ℕ
item_text (item.Variable number) = codes "variable " ++ decimal number
item_text (item.Command number) = codes "command " ++ decimal number
item_text (item.Label number) = codes "label " ++ decimal number
item_text item.Property = codes "property"

-- a text that has no type
abbrev pub type_row : TypeFault → Option Row
type_row (type.UnknownName name) = row 550 (codes "unknown name " ++ name)
type_row (type.WrongType item) = row 551 (codes "wrong type in " ++ item_text item)
type_row (type.BadRange name) = row 552 (codes "bad range " ++ name)
type_row (type.InitOutside name) = row 553 (codes "initial value outside " ++ name)
type_row (type.ForeignWrite name) = row 554 (codes "foreign write " ++ name)
type_row (type.GlobalInSync name) = row 555 (codes "global in a labelled command " ++ name)
type_row (type.WrittenTwice name) = row 556 (codes "written twice " ++ name)
type_row type.TooLarge = row 557 (codes "too large")
type_row (type.BadNumber item fault) = row 558 (num_text fault ++ (codes " in " ++ item_text item))
type_row (type.UnknownLabel name) = row 559 (codes "unknown label " ++ name)
type_row type.BadHorizon = row 560 (codes "bad horizon")
type_row (type.OutOfMemory error) = None

-- settings that make no goal
abbrev pub settings_row : SettingsFault → Option Row
settings_row (settings.Theta theta) = row 700 (codes "theta " ++ fraction_text theta)
settings_row (settings.Delta delta) = row 701 (codes "delta " ++ fraction_text delta)
settings_row (settings.ErrorOutside alpha beta) =
    row 702 (codes "errors " ++ (fraction_text alpha ++ (codes " " ++ fraction_text beta)))
settings_row (settings.ErrorSum alpha beta) =
    row 703 (codes "errors " ++ (fraction_text alpha ++ (codes " " ++ fraction_text beta)))
settings_row (settings.Denominator number) = row 704 (codes "denominator " ++ signed_decimal number)
settings_row (settings.Plan n c) = row 705 (codes "plan " ++ (decimal n ++ (codes "," ++ decimal c)))

-- the number of a refusal of the model, and of the same refusal of the property
abbrev pub number_for : Subject → ℕ → ℕ
number_for subject.Model number = number
number_for subject.Property number = number + 100

-- the row of a refusal of one of the texts, from that of the model
abbrev pub row_for : Subject → Option Row → Option Row
row_for subject found = option_map (λ r. record { number = number_for subject r.number; text = r.text }) found

-- a text that is too long
abbrev pub long_row : Subject → Option Row
long_row subject.Model = row 500 (codes "model too long")
long_row subject.Property = row 600 (codes "property too long")

-- the row of each reason
abbrev pub row_of : Reason → Option Row
row_of reason.Usage = row 300 (codes "usage")
row_of reason.ReadFault = row 400 (codes "read fault")
row_of (reason.TooLong subject) = long_row subject
row_of (reason.Lex subject fault) = row_for subject (lex_row fault)
row_of (reason.Parse subject fault) = row_for subject (parse_row fault)
row_of (reason.Expand subject fault) = row_for subject (expand_row fault)
row_of (reason.Const fault) = const_row fault
row_of (reason.Type subject fault) = row_for subject (type_row fault)
row_of (reason.Settings fault) = settings_row fault

-- the number of a row, if there is one
abbrev pub number_in : Option Row → Option ℕ
number_in found = option_map (λ r. r.number) found

-- the text of a row, if there is one
abbrev pub text_in : Option Row → Option (List ℕ)
text_in found = option_map (λ r. r.text) found

-- the line of a row
abbrev pub row_line : Row → List ℕ
row_line r = codes "refused " ++ (decimal r.number ++ (codes ": " ++ (r.text ++ codes "\n")))

-- the line of a refusal
abbrev pub refusal_line : Reason → Option (List ℕ)
refusal_line reason = option_map row_line (row_of reason)

-- the status where one of the texts is refused
abbrev pub status_for : Subject → ℕ
status_for subject.Model = 5
status_for subject.Property = 6

-- the status with which the program ends
abbrev pub status_of : Reason → ℕ
status_of reason.Usage = 3
status_of reason.ReadFault = 4
status_of (reason.TooLong subject) = status_for subject
status_of (reason.Lex subject fault) = status_for subject
status_of (reason.Parse subject fault) = status_for subject
status_of (reason.Expand subject fault) = status_for subject
status_of (reason.Const fault) = 5
status_of (reason.Type subject fault) = status_for subject
status_of (reason.Settings fault) = 7
