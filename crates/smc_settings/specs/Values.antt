-- The values of options.
use Rattle.std.specs.Prelude.{◌≡◌, ℕ, ◌^◌, ◌==◌, ◌&&◌, Bool, Option, Some, None, if◌then◌else◌, nat_le, length, pos, Ok}
use Rattle.std.specs.Char.{is_ascii_digit}
use Rattle.std.specs.List.{list_all, before_first, after_first}
use Rattle.std.specs.Str.Parse.{digits_value}
use Rattle.smc_num.specs.Fraction.{Fraction}
use Rattle.smc_num.specs.Spelling.{Written, IsNumber, value_of}
use Rattle.smc_settings.specs.declared.commands.TestWords.{TestWords}
use Rattle.smc_settings.specs.declared.commands.TestWords.TheVariants.{Plan}
use Rattle.smc_settings.specs.Options.{Text}

-- a whole number: 1 to 20 digits
abbrev pub is_whole : Text → Bool
is_whole text = nat_le 1 (length text) && nat_le (length text) 20 && list_all is_ascii_digit text

-- a whole number from least to most
abbrev pub whole_within : ℕ → ℕ → Text → Option ℕ
whole_within least most text =
    if is_whole text && nat_le least (digits_value 10 text) && nat_le (digits_value 10 text) most
    then Some (digits_value 10 text) else None

-- the whole number of an option, or its default where it isn't given
abbrev pub whole_or : ℕ → ℕ → ℕ → Option Text → Option ℕ
whole_or default least most None = Some default
whole_or default least most (Some text) = whole_within least most text

-- a text that spells a number within the limits of numbers, and the number
pub record IsNumberOf (text : Text) (number : Fraction) : Type 0 where
  pub negative : Bool
  pub written : Written
  pub spelled : IsNumber text negative written
  pub value : value_of negative written ≡ Ok number

-- the number of an option, or one hundredth where it isn't given
abbrev pub IsNumberOr : Option Text → Fraction → Type 0
IsNumberOr None number = number ≡ record { num = pos 1; den = 100 }
IsNumberOr (Some text) number = IsNumberOf text number

-- two numbers as a plan
abbrev pub plan_from : Option ℕ → Option ℕ → Option TestWords
plan_from None number = None
plan_from (Some samples) None = None
plan_from (Some samples) (Some number) = Some (Plan samples number)

-- a plan: two whole numbers of at most 2^28, with a comma between them
abbrev pub plan_of : Text → Option TestWords
plan_of text =
    plan_from (whole_within 0 (2 ^ 28) (before_first (λ byte. byte == 44) text))
    (whole_within 0 (2 ^ 28) (after_first (λ byte. byte == 44) text))
