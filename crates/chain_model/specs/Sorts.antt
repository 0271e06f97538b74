-- The table of forms: which sorts each form takes, and of which sort it is then (the PRISM language, with exact numbers).
use Rattle.std.specs.Prelude.{ℕ, ◌==◌, ◌&&◌, nat_lt, Bool, true, false, List, [], ◌∷◌, Option, Some, None, option_map, length, if◌then◌else◌}
use Rattle.std.specs.List.{list_all}
use Rattle.chain_model.specs.declared.values.Sort.{Sort}
use Rattle.chain_model.specs.declared.values.Sort.TheVariants as sort
use Rattle.chain_model.specs.declared.values.Value.{Value}
use Rattle.chain_model.specs.declared.values.Value.TheVariants as v
use Rattle.chain_model.specs.declared.expressions.Func.{Func}
use Rattle.chain_model.specs.declared.expressions.Func.TheVariants as f
use Rattle.chain_model.specs.declared.expressions.Op.{Op}
use Rattle.chain_model.specs.declared.expressions.Op.TheVariants as o

-- what comes of a sort, where there is one
infixl 10 ◌>>=◌
abbrev pub ◌>>=◌ : {A B : Type 0} → Option A → (A → Option B) → Option B
(Some x) >>= f = f x
None >>= f = None

-- numbers are of sort `int` or `double`
abbrev pub is_number : Sort → Bool
is_number sort.Int = true
is_number sort.Double = true
is_number sort.Bool = false

-- a value is of a sort; whole numbers alone are of sort `int`
abbrev pub is_of_sort : Sort → Value → Bool
is_of_sort sort.Int (v.Num x) = x.den == 1
is_of_sort sort.Double (v.Num x) = true
is_of_sort sort.Bool (v.Bool b) = true
is_of_sort _ _ = false

-- two numbers are of sort `int` where both are
abbrev pub number_sort : Sort → Sort → Option Sort
number_sort sort.Int sort.Int = Some sort.Int
number_sort sort.Bool _ = None
number_sort _ sort.Bool = None
number_sort _ _ = Some sort.Double

-- two booleans
abbrev pub truth_sort : Sort → Sort → Option Sort
truth_sort sort.Bool sort.Bool = Some sort.Bool
truth_sort _ _ = None

-- two numbers or two booleans
abbrev pub common_sort : Sort → Sort → Option Sort
common_sort sort.Bool sort.Bool = Some sort.Bool
common_sort a b = number_sort a b

-- the sort of an operator's result, by those of its operands
abbrev pub result_sort : Op → Sort → Sort → Option Sort
result_sort o.Imp a b = truth_sort a b
result_sort o.Iff a b = truth_sort a b
result_sort o.Or a b = truth_sort a b
result_sort o.And a b = truth_sort a b
result_sort o.Eq a b = option_map (λ s. sort.Bool) (common_sort a b)
result_sort o.Ne a b = option_map (λ s. sort.Bool) (common_sort a b)
result_sort o.Lt a b = option_map (λ s. sort.Bool) (number_sort a b)
result_sort o.Le a b = option_map (λ s. sort.Bool) (number_sort a b)
result_sort o.Gt a b = option_map (λ s. sort.Bool) (number_sort a b)
result_sort o.Ge a b = option_map (λ s. sort.Bool) (number_sort a b)
result_sort o.Add a b = number_sort a b
result_sort o.Sub a b = number_sort a b
result_sort o.Mul a b = number_sort a b
result_sort o.Div a b = option_map (λ s. sort.Double) (number_sort a b)

-- how tightly an operator binds; those of one line of the grammar bind alike
abbrev pub precedence_of : Op → ℕ
precedence_of o.Imp = 0
precedence_of o.Iff = 1
precedence_of o.Or = 2
precedence_of o.And = 3
precedence_of o.Eq = 4
precedence_of o.Ne = 4
precedence_of o.Lt = 5
precedence_of o.Le = 5
precedence_of o.Gt = 5
precedence_of o.Ge = 5
precedence_of o.Add = 6
precedence_of o.Sub = 6
precedence_of o.Mul = 7
precedence_of o.Div = 7

-- an operator may stand in the level that another begins: both bind alike, and after `=>` there is none
abbrev pub may_follow : Op → Op → Bool
may_follow first op = nat_lt 0 (precedence_of first) && precedence_of first == precedence_of op

-- the sort of an operator's result, where its right operand has a sort
abbrev pub link_sort : Op → Sort → Option Sort → Option Sort
link_sort op a part = part >>= result_sort op a

-- the sort of a chain's operands joined from the left, with the operators between them
abbrev pub links_sort : Sort → List (Option Sort) → List Op → Option Sort
links_sort a [] ops = Some a
links_sort a (part ∷ parts) [] = Some a
links_sort a (part ∷ parts) (op ∷ ops) = link_sort op a part >>= λ joined. links_sort joined parts ops

-- the operators of a level are one fewer than its operands, and all of one line of the grammar
abbrev pub is_level : ℕ → Op → List Op → Bool
is_level others first ops = others == length (first ∷ ops) && list_all (may_follow first) ops

-- the sort of a level of two or more operands
abbrev pub level_sort : List (Option Sort) → List Op → Option Sort
level_sort (part ∷ parts) (op ∷ ops) = if is_level (length parts) op ops then part >>= (λ a. links_sort a parts (op ∷ ops)) else None
level_sort _ _ = None

-- the sort of the least or the greatest of numbers
abbrev pub extreme_sort : Sort → List (Option Sort) → Option Sort
extreme_sort a [] = Some a
extreme_sort a (part ∷ parts) = do
  b ← part
  joined ← number_sort a b
  extreme_sort joined parts

-- the sort of a number rounded to a whole one
abbrev pub rounded_sort : Sort → Option Sort
rounded_sort a = if is_number a then Some sort.Int else None

-- the sort of a power, whose exponent is of sort `int`, and of a remainder of two of sort `int`
abbrev pub power_sort : Sort → Sort → Option Sort
power_sort sort.Int sort.Int = Some sort.Int
power_sort sort.Double sort.Int = Some sort.Double
power_sort _ _ = None

abbrev pub remainder_sort : Sort → Sort → Option Sort
remainder_sort sort.Int sort.Int = Some sort.Int
remainder_sort _ _ = None

-- the sort of the least or the greatest of two numbers or more
abbrev pub extremes_sort : List (Option Sort) → Option Sort
extremes_sort (a ∷ (b ∷ parts)) = a >>= (λ s. extreme_sort s (b ∷ parts))
extremes_sort _ = None

-- the sort of the only part, and the sorts of both parts
abbrev pub only_sort : List (Option Sort) → Option Sort
only_sort (a ∷ []) = a
only_sort _ = None

abbrev pub both_sorts : List (Option Sort) → Option (Sort × Sort)
both_sorts (a ∷ (b ∷ [])) = a >>= λ s. b >>= λ t. Some (s, t)
both_sorts _ = None

-- the sort of a call: `min` and `max` take two parts or more, `floor` and `ceil` one, `pow` and `mod` two
abbrev pub call_sort : Func → List (Option Sort) → Option Sort
call_sort f.Min parts = extremes_sort parts
call_sort f.Max parts = extremes_sort parts
call_sort f.Floor parts = only_sort parts >>= rounded_sort
call_sort f.Ceil parts = only_sort parts >>= rounded_sort
call_sort f.Pow parts = both_sorts parts >>= λ s. power_sort s.0 s.1
call_sort f.Mod parts = both_sorts parts >>= λ s. remainder_sort s.0 s.1

-- the sort of `!`, and of unary `-`
abbrev pub negation_sort : Sort → Option Sort
negation_sort sort.Bool = Some sort.Bool
negation_sort _ = None

abbrev pub opposite_sort : Sort → Option Sort
opposite_sort a = if is_number a then Some a else None

-- the sort of a conditional, whose condition is a boolean
abbrev pub conditional_sort : Sort → Sort → Sort → Option Sort
conditional_sort sort.Bool a b = common_sort a b
conditional_sort _ a b = None
