-- A fault of evaluating is one of arithmetic, where names stand for values or for faults of arithmetic.
use Rattle.std.proofs.Common.{List, [], ◌∷◌, map, refl, sym, subst, Bool, true, false, if◌then◌else◌}
use Rattle.std.specs.Prelude.{Option, Some, None, Result, Ok, Err, ℤ, pos}
use Rattle.std.specs.Option.{option_map_or}
use Rattle.smc_num.specs.Fraction.{Fraction, fraction_of}
use Rattle.smc_num.specs.declared.fault.NumFault.{NumFault}
use Rattle.prism_syntax.specs.declared.expressions.Expr.{Expr, map-Expr}
use Rattle.prism_syntax.specs.declared.expressions.Expr.TheOpen.{Expr-F}
use Rattle.prism_syntax.specs.declared.expressions.Expr.TheOpen as top
use Rattle.prism_syntax.specs.declared.expressions.Expr.TheViews.{roll-Expr}
use Rattle.prism_syntax.specs.declared.expressions.Expr.TheFolds.{fold-roll-Expr, ind-Expr}
use Rattle.prism_syntax.specs.declared.models.ConstText.{ConstText}
use Rattle.chain_model.specs.declared.values.Value.{Value}
use Rattle.chain_model.specs.declared.values.Value.TheVariants as v
use Rattle.chain_model.specs.declared.expressions.Func.{Func}
use Rattle.chain_model.specs.declared.expressions.Func.TheVariants as f
use Rattle.chain_model.specs.declared.expressions.Op.{Op}
use Rattle.chain_model.specs.declared.expressions.Op.TheVariants as o
use Rattle.chain_model.specs.Results.{◌>>=◌}
use Rattle.chain_model.specs.Values.{Valued, truth, as_value, remainder, apply_to_number, apply_to_numbers, left_result, both_result, join, links_value, level_value, extreme_value, lesser, greater, function_value, call_value}
use Rattle.prism_names.specs.First.{Name}
use Rattle.const_eval.specs.declared.consts.Constant.{Constant}
use Rattle.const_eval.specs.Tables.{op_of, func_of}
use Rattle.const_eval.specs.Evaluating.{value_step, value_in, some_value}
use Rattle.const_eval.specs.Constants.{result_of}
use Rattle.const_eval.specs.Listing.{FaultsInArithmetic}

-- each of these results faults in arithmetic alone
abbrev AllFault : List Valued → Type 0
AllFault [] = Unit {0}
AllFault (r ∷ rs) = FaultsInArithmetic r × AllFault rs

then_faults : (r : Valued) (g : Value → Valued) → FaultsInArithmetic r → ((a : Value) → FaultsInArithmetic (g a)) → FaultsInArithmetic (r >>= g)
then_faults (Ok a) g first next = next a
then_faults (Err fault) g first next = first

number_faults : (r : Result Fraction NumFault) → FaultsInArithmetic (as_value r)
number_faults (Ok x) = tt
number_faults (Err fault) = (fault, refl)

remainder_faults : (r : Result ℤ NumFault) → FaultsInArithmetic (remainder r)
remainder_faults (Ok n) = number_faults (fraction_of n (pos 1))
remainder_faults (Err fault) = (fault, refl)

one_faults : (g : Fraction → Valued) → ((x : Fraction) → FaultsInArithmetic (g x)) → (a : Value) → FaultsInArithmetic (apply_to_number g a)
one_faults g each (v.Num x) = each x
one_faults g each (v.Bool b) = tt

two_fault : (g : Fraction → Fraction → Valued) → ((x y : Fraction) → FaultsInArithmetic (g x y)) → (a b : Value) → FaultsInArithmetic (apply_to_numbers g a b)
two_fault g each (v.Num x) (v.Num y) = each x y
two_fault g each (v.Num x) (v.Bool b) = tt
two_fault g each (v.Bool a) b = tt

both_fault : (op : Op) (a b : Value) → FaultsInArithmetic (both_result op a b)
both_fault o.And a b = tt
both_fault o.Or a b = tt
both_fault o.Imp a b = tt
both_fault o.Iff a b = tt
both_fault o.Eq a b = tt
both_fault o.Ne a b = tt
both_fault o.Lt a b = tt
both_fault o.Le a b = tt
both_fault o.Gt a b = tt
both_fault o.Ge a b = tt
both_fault o.Add a b = two_fault _ (λ x y. number_faults _) a b
both_fault o.Sub a b = two_fault _ (λ x y. number_faults _) a b
both_fault o.Mul a b = two_fault _ (λ x y. number_faults _) a b
both_fault o.Div a b = two_fault _ (λ x y. number_faults _) a b

join_faults : (op : Op) (a : Value) (part : Valued) → FaultsInArithmetic part → FaultsInArithmetic (join op a part)
join_faults op a part first = by (left_result op a)
  where
    by : (decided : Option Value) → FaultsInArithmetic (option_map_or Ok decided (part >>= both_result op a))
    by None = then_faults part (both_result op a) first (both_fault op a)
    by (Some value) = tt

links_fault : (a : Value) (parts : List Valued) (ops : List Op) → AllFault parts → FaultsInArithmetic (links_value a parts ops)
links_fault a [] ops all = tt
links_fault a (part ∷ parts) [] all = tt
links_fault a (part ∷ parts) (op ∷ ops) all =
    then_faults (join op a part) (λ b. links_value b parts ops) (join_faults op a part all.0) (λ b. links_fault b parts ops all.1)

level_faults : (parts : List Valued) (ops : List Op) → AllFault parts → FaultsInArithmetic (level_value parts ops)
level_faults [] ops all = tt
level_faults (part ∷ parts) ops all = then_faults part (λ a. links_value a parts ops) all.0 (λ a. links_fault a parts ops all.1)

extreme_faults : (chosen : Value → Value → Value) (a : Value) (parts : List Valued) → AllFault parts → FaultsInArithmetic (extreme_value chosen a parts)
extreme_faults chosen a [] all = tt
extreme_faults chosen a (part ∷ parts) all = then_faults part (λ b. extreme_value chosen (chosen a b) parts) all.0 (λ b. extreme_faults chosen (chosen a b) parts all.1)

function_faults : (func : Func) (a : Value) (parts : List Valued) → AllFault parts → FaultsInArithmetic (function_value func a parts)
function_faults f.Min a parts all = extreme_faults lesser a parts all
function_faults f.Max a parts all = extreme_faults greater a parts all
function_faults f.Floor a parts all = one_faults _ (λ x. number_faults _) a
function_faults f.Ceil a parts all = one_faults _ (λ x. number_faults _) a
function_faults f.Pow a [] all = tt
function_faults f.Pow a (part ∷ parts) all = then_faults part _ all.0 (two_fault _ (λ x y. number_faults _) a)
function_faults f.Mod a [] all = tt
function_faults f.Mod a (part ∷ parts) all = then_faults part _ all.0 (two_fault _ (λ x y. remainder_faults _) a)

call_faults : (func : Func) (parts : List Valued) → AllFault parts → FaultsInArithmetic (call_value func parts)
call_faults func [] all = tt
call_faults func (part ∷ parts) all = then_faults part (λ a. function_value func a parts) all.0 (λ a. function_faults func a parts all.1)

chosen_faults : (b : Bool) (x y : Valued) → FaultsInArithmetic x → FaultsInArithmetic y → FaultsInArithmetic (if b then x else y)
chosen_faults true x y first second = first
chosen_faults false x y first second = second

-- an expression faults in arithmetic alone
abbrev Faults : (Name → Valued) → Expr → Type 0
Faults values x = FaultsInArithmetic (value_in values x)

all_fault : (values : Name → Valued) (ps : List ((x : Expr) × Faults values x)) → AllFault (map (value_in values) (map (λ p. p.0) ps))
all_fault values [] = tt
all_fault values (p ∷ ps) = (p.1, all_fault values ps)

abbrev Under : (Name → Valued) → Type 0
Under values = (x : Expr) × Faults values x

layer : (values : Name → Valued) → ((n : Name) → FaultsInArithmetic (values n)) → (y : Expr-F (Under values))
    → FaultsInArithmetic (value_step values (map-Expr Expr Valued (value_in values) (map-Expr (Under values) Expr (λ p. p.0) y)))
layer values each (top.Whole x) = tt
layer values each (top.Real x) = tt
layer values each (top.Truth x) = tt
layer values each (top.Name n) = each n
layer values each (top.Quoted n) = tt
layer values each (top.Paren p) = p.1
layer values each (top.Call h ps) = call_faults (func_of h) (map (value_in values) (map (λ p. p.0) ps)) (all_fault values ps)
layer values each (top.Not p) = then_faults (value_in values p.0) _ p.1 (λ a. tt)
layer values each (top.Minus p) = then_faults (value_in values p.0) _ p.1 (one_faults _ (λ x. number_faults _))
layer values each (top.Level ps os) = level_faults (map (value_in values) (map (λ p. p.0) ps)) (map op_of os) (all_fault values ps)
layer values each (top.If p q r) = then_faults (value_in values p.0) _ p.1 (λ a. chosen_faults (truth a) (value_in values q.0) (value_in values r.0) q.1 r.1)

pub value_faults : (values : Name → Valued) → ((n : Name) → FaultsInArithmetic (values n)) → (x : Expr) → FaultsInArithmetic (value_in values x)
value_faults values each = ind-Expr (Faults values) (λ x y is. subst (λ z. Faults values (roll-Expr z)) is
    (subst FaultsInArithmetic (sym (fold-roll-Expr Valued (value_step values) (map-Expr (Under values) Expr (λ p. p.0) y))) (layer values each y)))

-- the result of a constant faults in arithmetic alone
pub result_faults : (given : Name → Option Constant) (values : Name → Valued) → ((n : Name) → FaultsInArithmetic (values n)) → (c : ConstText) → FaultsInArithmetic (result_of given values c)
result_faults given values each c = by_given (given c.name)
  where
    by_value : (value : Option Expr) → FaultsInArithmetic (option_map_or (value_in values) value some_value)
    by_value None = tt
    by_value (Some x) = value_faults values each x

    by_given : (found : Option Constant) → FaultsInArithmetic (option_map_or (λ g. Ok g.value) found (option_map_or (value_in values) c.value some_value))
    by_given None = by_value c.value
    by_given (Some g) = tt
