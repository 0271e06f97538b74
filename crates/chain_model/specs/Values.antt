-- The value of an expression in a state: exact, from left to right, and the first fault is the fault of the whole.
use Rattle.std.specs.Prelude.{ℤ, pos, neg_ℤ, List, [], ◌∷◌, Bool, true, false, not, Option, Some, None, Result, Ok, Err, if◌then◌else◌, slice_get, unwrap_or}
use Rattle.std.specs.Bool.{beq}
use Rattle.std.specs.Option.{option_map_or}
use Rattle.std.specs.Ordering.{int_eq}
use Rattle.std.specs.declared.cmp.Ordering.{Ordering}
use Rattle.std.specs.declared.cmp.Ordering.TheVariants.{Less, Equal, Greater}
use Rattle.smc_num.specs.declared.fault.NumFault.{NumFault}
use Rattle.smc_num.specs.declared.fault.NumFault.TheVariants as num
use Rattle.smc_num.specs.Fraction.{Fraction, fraction_of}
use Rattle.smc_num.specs.Arithmetic.{sum_of, difference_of, product_of, quotient_of, power_of, modulo_of, compare_of, floor_of, ceil_of}
use Rattle.chain_model.specs.declared.outcome.TraceFault.{TraceFault}
use Rattle.chain_model.specs.declared.outcome.TraceFault.TheVariants.{ZeroDivisor, OutOfLimit, OutsideDomain}
use Rattle.chain_model.specs.declared.values.Sort.{Sort}
use Rattle.chain_model.specs.declared.values.Sort.TheVariants as sort
use Rattle.chain_model.specs.declared.values.Value.{Value}
use Rattle.chain_model.specs.declared.values.Value.TheVariants as v
use Rattle.chain_model.specs.declared.values.LabelValues.{LabelValues}
use Rattle.chain_model.specs.declared.expressions.Func.{Func}
use Rattle.chain_model.specs.declared.expressions.Func.TheVariants as f
use Rattle.chain_model.specs.declared.expressions.Op.{Op}
use Rattle.chain_model.specs.declared.expressions.Op.TheVariants as o
use Rattle.chain_model.specs.declared.expressions.Typed.{Typed}
use Rattle.chain_model.specs.declared.expressions.Form.TheOpen.{Form-F}
use Rattle.chain_model.specs.declared.expressions.Form.TheOpen as top
use Rattle.chain_model.specs.declared.expressions.Form.TheFolds.{fold-Typed}
use Rattle.chain_model.specs.States.{State}
use Rattle.chain_model.specs.Results.{◌>>=◌}

-- a value, or the fault of evaluating
abbrev pub Valued : Type 0
Valued = Result Value TraceFault

-- the truth value of a value; a number has none, and counts as false
abbrev pub truth : Value → Bool
truth (v.Bool b) = b
truth (v.Num x) = false

-- a fault of arithmetic is one of the trace
abbrev pub as_fault : NumFault → TraceFault
as_fault num.ZeroDivisor = ZeroDivisor
as_fault num.OutsideDomain = OutsideDomain
as_fault num.OutOfLimit = OutOfLimit

-- what arithmetic gives
abbrev pub as_value : Result Fraction NumFault → Valued
as_value (Ok x) = Ok (v.Num x)
as_value (Err fault) = Err (as_fault fault)

-- a whole number as a value
abbrev pub whole_value : ℤ → Valued
whole_value n = as_value (fraction_of n (pos 1))

-- a remainder
abbrev pub remainder : Result ℤ NumFault → Valued
remainder (Ok n) = whole_value n
remainder (Err fault) = Err (as_fault fault)

-- what is said of one number, and of two; a well-typed tree asks it of no truth value
abbrev pub apply_to_number : (Fraction → Valued) → Value → Valued
apply_to_number f (v.Num x) = f x
apply_to_number f _ = Ok (v.Bool false)

abbrev pub apply_to_numbers : (Fraction → Fraction → Valued) → Value → Value → Valued
apply_to_numbers f (v.Num x) (v.Num y) = f x y
apply_to_numbers f _ _ = Ok (v.Bool false)

abbrev pub is_equal : Ordering → Bool
is_equal Equal = true
is_equal Less = false
is_equal Greater = false

abbrev pub is_less : Ordering → Bool
is_less Less = true
is_less Equal = false
is_less Greater = false

-- two truth values are the same, or two numbers are
abbrev pub are_same : Value → Value → Bool
are_same (v.Bool a) (v.Bool b) = beq a b
are_same (v.Num x) (v.Num y) = is_equal (compare_of x y)
are_same _ _ = false

-- one number is below another
abbrev pub is_below : Value → Value → Bool
is_below (v.Num x) (v.Num y) = is_less (compare_of x y)
is_below _ _ = false

-- what `&`, `|` and `=>` give by their left side alone
abbrev pub left_result : Op → Value → Option Value
left_result o.And a = if truth a then None else Some (v.Bool false)
left_result o.Or a = if truth a then Some (v.Bool true) else None
left_result o.Imp a = if truth a then None else Some (v.Bool true)
left_result _ a = None

-- an operator of arithmetic
abbrev pub arithmetic_of : Op → Fraction → Fraction → Result Fraction NumFault
arithmetic_of o.Sub x y = difference_of x y
arithmetic_of o.Mul x y = product_of x y
arithmetic_of o.Div x y = quotient_of x y
arithmetic_of _ x y = sum_of x y

-- what an operator gives by both sides, where its left side alone does not say
abbrev pub both_result : Op → Value → Value → Valued
both_result o.And a b = Ok b
both_result o.Or a b = Ok b
both_result o.Imp a b = Ok b
both_result o.Iff a b = Ok (v.Bool (beq (truth a) (truth b)))
both_result o.Eq a b = Ok (v.Bool (are_same a b))
both_result o.Ne a b = Ok (v.Bool (not (are_same a b)))
both_result o.Lt a b = Ok (v.Bool (is_below a b))
both_result o.Le a b = Ok (v.Bool (not (is_below b a)))
both_result o.Gt a b = Ok (v.Bool (is_below b a))
both_result o.Ge a b = Ok (v.Bool (not (is_below a b)))
both_result o.Add a b = apply_to_numbers (λ x y. as_value (arithmetic_of o.Add x y)) a b
both_result o.Sub a b = apply_to_numbers (λ x y. as_value (arithmetic_of o.Sub x y)) a b
both_result o.Mul a b = apply_to_numbers (λ x y. as_value (arithmetic_of o.Mul x y)) a b
both_result o.Div a b = apply_to_numbers (λ x y. as_value (arithmetic_of o.Div x y)) a b

-- a value joined to the next part of its chain, which is read only where the value alone does not say
abbrev pub join : Op → Value → Valued → Valued
join op a part = option_map_or Ok (left_result op a) (part >>= both_result op a)

-- a chain is folded from the left
abbrev pub links_value : Value → List Valued → List Op → Valued
links_value a [] ops = Ok a
links_value a (part ∷ parts) [] = Ok a
links_value a (part ∷ parts) (op ∷ ops) = join op a part >>= λ b. links_value b parts ops

-- a chain begins with its first part; none is empty
abbrev pub level_value : List Valued → List Op → Valued
level_value [] ops = Ok (v.Bool false)
level_value (part ∷ parts) ops = part >>= λ a. links_value a parts ops

-- a value is above another
abbrev pub is_above : Value → Value → Bool
is_above a b = is_below b a

-- the lesser of two numbers, and the greater
abbrev pub lesser : Value → Value → Value
lesser a b = if is_below b a then b else a

abbrev pub greater : Value → Value → Value
greater a b = if is_above b a then b else a

-- what is chosen, two at a time, of a value and further parts
abbrev pub extreme_value : (Value → Value → Value) → Value → List Valued → Valued
extreme_value chosen a [] = Ok a
extreme_value chosen a (part ∷ parts) = part >>= λ b. extreme_value chosen (chosen a b) parts

-- a function of its first part's value and the further parts
abbrev pub function_value : Func → Value → List Valued → Valued
function_value f.Min a parts = extreme_value lesser a parts
function_value f.Max a parts = extreme_value greater a parts
function_value f.Floor a parts = apply_to_number (λ x. whole_value (floor_of x)) a
function_value f.Ceil a parts = apply_to_number (λ x. whole_value (ceil_of x)) a
function_value f.Pow a (part ∷ parts) = part >>= apply_to_numbers (λ x k. as_value (power_of x k.num)) a
function_value f.Mod a (part ∷ parts) = part >>= apply_to_numbers (λ i n. remainder (modulo_of i.num n.num)) a
function_value _ a [] = Ok (v.Bool false)

-- a call begins with its first part; each has one
abbrev pub call_value : Func → List Valued → Valued
call_value func [] = Ok (v.Bool false)
call_value func (part ∷ parts) = part >>= λ a. function_value func a parts

-- the value of a variable of a sort
abbrev pub variable_value : Sort → ℤ → Valued
variable_value sort.Bool n = Ok (v.Bool (not (int_eq n (pos 0))))
variable_value _ n = whole_value n

-- what the label "deadlock" gives; its fault comes only where it is read
abbrev pub deadlock_value : LabelValues → Valued
deadlock_value labels = labels.deadlock >>= λ b. Ok (v.Bool b)

-- the value of one node of some sort, by those of its parts
abbrev pub form_value : LabelValues → State → Form-F (Sort → Valued) Valued → Sort → Valued
form_value labels state (top.Lit a) s = Ok a
form_value labels state (top.Var n) s = variable_value s (unwrap_or (slice_get state n) (pos 0))
form_value labels state (top.Call func parts) s = call_value func parts
form_value labels state (top.Not x) s = x >>= λ a. Ok (v.Bool (not (truth a)))
form_value labels state (top.Minus x) s = x >>= apply_to_number (λ n. as_value (fraction_of (neg_ℤ n.num) (pos n.den)))
form_value labels state (top.Level parts ops) s = level_value parts ops
form_value labels state (top.If c x y) s = c >>= λ a. if truth a then x else y
form_value labels state top.IsInit s = Ok (v.Bool labels.init)
form_value labels state top.IsDeadlock s = deadlock_value labels

-- the value of an expression, where the built-in labels say this
abbrev pub value_with : LabelValues → State → Typed → Valued
value_with labels state = fold-Typed (Sort → Valued) Valued (form_value labels state) (λ t. t.form t.sort)
