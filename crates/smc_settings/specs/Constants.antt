-- Constants that are given from outside: pairs `name=value`, joined by commas.
use Rattle.std.specs.Prelude.{◌≡◌, Bool, true, false, ℤ, pos, List, [], ◌∷◌, ◌++◌, Option, Some, None, Ok, codes}
use Rattle.std.specs.Str.Parse.{IsNumeral}
use Rattle.smc_num.specs.Fraction.{Fraction}
use Rattle.smc_num.specs.Spelling.{IsSpelled, decimal, value_of}
use Rattle.prism_syntax.specs.Tokens.{IsWord, IsFree}
use Rattle.chain_model.specs.declared.values.Sort.{Sort}
use Rattle.chain_model.specs.declared.values.Sort.TheVariants as sort
use Rattle.chain_model.specs.declared.values.Value.{Value}
use Rattle.chain_model.specs.declared.values.Value.TheVariants as value
use Rattle.chain_model.specs.declared.constants.Given.{Given}
use Rattle.smc_settings.specs.Options.{Text}

-- a text, with `-` before it where the flag is set
abbrev pub with_sign : Bool → Text → Text
with_sign false text = text
with_sign true text = 45 ∷ text

-- a whole number is of sort `int`, a number with a fraction or an exponent of sort `double`, a truth value of sort `bool`
pub data IsValueOf : Text → Sort → Value → Type 0 where
  whole : (negative : Bool) (digits : Text) (number : Fraction) → IsNumeral 10 digits
      → value_of negative (decimal digits (pos 0)) ≡ Ok number
      → IsValueOf (with_sign negative digits) sort.Int (value.Num number)
  real : (negative : Bool) (text digits : Text) (power : ℤ) (number : Fraction) → IsSpelled text (decimal digits power)
      → (IsNumeral 10 text → ⊥) → value_of negative (decimal digits power) ≡ Ok number
      → IsValueOf (with_sign negative text) sort.Double (value.Num number)
  holds : IsValueOf (codes "true") sort.Bool (value.Bool true)
  fails : IsValueOf (codes "false") sort.Bool (value.Bool false)

-- a name that is no reserved word, `=`, and a value
pub record IsPair (text : Text) (given : Given) : Type 0 where
  pub value : Text
  pub cut : text ≡ given.name ++ 61 ∷ value
  pub word : IsWord given.name
  pub free : IsFree given.name
  pub is_value : IsValueOf value given.sort given.value

-- pairs with a comma between each two
pub data ArePairs : Text → List Given → Type 0 where
  last : (text : Text) (given : Given) → IsPair text given → ArePairs text (given ∷ [])
  more : (text rest : Text) (given : Given) (others : List Given) → IsPair text given → ArePairs rest others
      → ArePairs (text ++ 44 ∷ rest) (given ∷ others)

-- the pairs of an option, or none where it isn't given
abbrev pub ArePairsOr : Option Text → List Given → Type 0
ArePairsOr None given = given ≡ []
ArePairsOr (Some text) given = ArePairs text given
