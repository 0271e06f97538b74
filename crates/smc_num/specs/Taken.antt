-- How a text is taken apart from its front, if it spells a number.
use Rattle.std.specs.Prelude.{ℕ, suc, min, ◌^◌, negsuc, Result, Err, ◌==◌, ◌||◌, ◌&&◌, nat_lt, ℤ, pos, neg_ℤ, ◌-ℤ◌, Bool, false, List, [], ◌∷◌, ◌++◌, length, take, drop, Option, Some, None, option_map, if◌then◌else◌}
use Rattle.std.specs.List.{prefix_len}
use Rattle.std.specs.Char.{is_ascii_digit}
use Rattle.std.specs.Str.Parse.{digits_value}
use Rattle.smc_num.specs.declared.fault.ReadNum.{ReadNum}
use Rattle.smc_num.specs.declared.fault.ReadNum.TheVariants.{NotANumber}
use Rattle.smc_num.specs.Fraction.{Fraction}
use Rattle.smc_num.specs.Spelling.{Written, decimal, ratio, value_of}

-- the digits with which a text begins
abbrev pub front_of : List ℕ → List ℕ
front_of text = take (prefix_len is_ascii_digit text) text

-- what follows them
abbrev pub rest_of : List ℕ → List ℕ
rest_of text = drop (prefix_len is_ascii_digit text) text

-- a text is one digit or more and nothing else
abbrev pub is_numeral : List ℕ → Bool
is_numeral text = nat_lt 0 (length text) && (prefix_len is_ascii_digit text == length text)

-- the number of a text of digits
abbrev pub numeral_of : List ℕ → Option ℕ
numeral_of text = if is_numeral text then Some (digits_value 10 text) else None

-- the power that stands after `e` or `E`
abbrev pub signed_power_of : List ℕ → Option ℤ
signed_power_of [] = None
signed_power_of (c ∷ cs) =
    if c == 43 then option_map pos (numeral_of cs)
    else (if c == 45 then option_map (λ n. neg_ℤ (pos n)) (numeral_of cs) else option_map pos (numeral_of (c ∷ cs)))

-- the power of ten that an exponent gives
unfoldable pub power_in : List ℕ → Option ℤ
power_in [] = Some (pos 0)
power_in (c ∷ cs) = if c == 101 || c == 69 then signed_power_of cs else None

-- what stands after the digits and a point
unfoldable pub after_point : List ℕ → List ℕ → Option Written
after_point front text =
    if prefix_len is_ascii_digit text == 0 then None
    else option_map (λ power. decimal (front ++ front_of text) (power -ℤ pos (prefix_len is_ascii_digit text))) (power_in (rest_of text))

-- what stands after the digits and a bar
unfoldable pub after_bar : List ℕ → List ℕ → Option Written
after_bar front text =
    if nat_lt 0 (length front) && (is_numeral text && nat_lt 0 (digits_value 10 text)) then Some (ratio front text) else None

-- what stands after the digits, where it is an exponent or nothing
unfoldable pub after_digits : List ℕ → List ℕ → Option Written
after_digits front text = if nat_lt 0 (length front) then option_map (decimal front) (power_in text) else None

-- what stands after the digits
unfoldable pub after_front : List ℕ → List ℕ → Option Written
after_front front [] = after_digits front []
after_front front (c ∷ cs) = if c == 46 then after_point front cs else (if c == 47 then after_bar front cs else after_digits front (c ∷ cs))

-- what a text without a sign spells
unfoldable pub spelled_by : List ℕ → Option Written
spelled_by text = after_front (front_of text) (rest_of text)

-- whether a text begins with `-`
abbrev pub sign_of : List ℕ → Bool
sign_of [] = false
sign_of (c ∷ cs) = c == 45

-- the text without `-` before it
abbrev pub unsigned_of : List ℕ → List ℕ
unsigned_of [] = []
unsigned_of (c ∷ cs) = if c == 45 then cs else c ∷ cs

-- the value of what a text spells, or that it is no number
abbrev pub outcome_of : Bool → Option Written → Result Fraction ReadNum
outcome_of sign None = Err NotANumber
outcome_of sign (Some written) = value_of sign written

-- a number brought to a size of at most 2^100, with its sign
abbrev pub clamped : ℤ → ℤ
clamped (pos n) = pos (min n (2 ^ 100))
clamped (negsuc n) = neg_ℤ (pos (min (suc n) (2 ^ 100)))
