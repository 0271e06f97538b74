-- What the parse of options sees of a command.
use Rattle.std.specs.Prelude.{◌≡◌, ◌==◌, true, false, not, Bool, List, [], ◌∷◌, ◌++◌, Option, Some, codes, map}
use Rattle.std.specs.List.{list_any, list_all}
use Rattle.clap.specs.Words.{App, Rule, new_app, new_rule, is_simple_and_free}
use Rattle.clap.specs.Simple.{Shape, on_top, built, filled}
use Rattle.smc_settings.specs.declared.options.Form.{Form}
use Rattle.smc_settings.specs.declared.options.Form.TheVariants as form
use Rattle.smc_settings.specs.Options.{Text, Gives, AreOptions, is_known, is_value, value_in}

-- an option takes one text
abbrev pub option_rule : Text → Rule
option_rule name = record (new_rule name) { long = Some name }

-- a command without options takes words alone, and has no flags of its own
abbrev pub bare_app : App
bare_app =
    on_top (λ s. record s { no_binary_name = true; disable_help_flag = true; disable_version_flag = true })
    (new_app (codes "smc"))

-- a command with the options of a table
abbrev pub command_app : List Text → App
command_app table = on_top (λ s. record s { rules = map option_rule table }) bare_app

-- a name is some text without `=`
abbrev pub is_plain_name : Text → Bool
is_plain_name name = not (list_any (λ byte. byte == 61) name)

abbrev pub is_name : Text → Bool
is_name [] = false
is_name (byte ∷ name) = is_plain_name (byte ∷ name)

-- the options of a table as the parse reads them
abbrev pub rules_in : List Text → List Rule
rules_in table = map (λ name. filled (option_rule name)) table

-- the command as the parse reads it
abbrev pub shape_with : List Text → Shape
shape_with table = record (built (command_app [])).top { rules = rules_in table }

-- names that can serve as options of one command
pub record IsTable (table : List Text) : Type 0 where
  pub names : list_all is_name table ≡ true
  pub free : is_simple_and_free (command_app table) ≡ true
  pub builds : built (command_app table) ≡ record { top = shape_with table; subs = [] }

-- a word that is an option of the table, with its value
pub record IsOptionWord (table : List Text) (word : Text) : Type 0 where
  pub name : Text
  pub value : Text
  pub cut : word ≡ 45 ∷ 45 ∷ (name ++ 61 ∷ value)
  pub known : is_known table name ≡ true
  pub valid : is_value value ≡ true

-- a word that is an option of the table, whose value is the next word
pub record IsNameWord (table : List Text) (word : Text) : Type 0 where
  pub name : Text
  pub cut : word ≡ 45 ∷ 45 ∷ name
  pub known : is_known table name ≡ true

-- the words give some options of the table
abbrev pub HasOptions : List Text → List Text → Type 0
HasOptions table words = (options : List (Text × Text)) × Gives table words options

-- the words go on with the value of a name, or with options
abbrev pub GoesOn : List Text → Bool → List Text → Type 0
GoesOn table false words = HasOptions table words
GoesOn table true [] = ⊥
GoesOn table true (value ∷ words) = (is_value value ≡ true) × HasOptions table words

-- these are the values of the options that the words give
pub record HasValues (table words : List Text) (value : Text → Option Text) : Type 0 where
  pub options : List (Text × Text)
  pub are_options : AreOptions table words options
  pub values : (name : Text) → value name ≡ value_in options name

-- what a word is that is no value
abbrev pub HasForm : List Text → Text → Form → Type 0
HasForm table word form.Option = IsOptionWord table word
HasForm table word form.Name = IsNameWord table word
HasForm table word form.Neither = (IsOptionWord table word → ⊥) × (IsNameWord table word → ⊥)
