-- The value of an expression is of the expression's sort, where names stand for values of their sorts.
use Rattle.std.proofs.Common.{◌≡◌, ℕ, zero, suc, ◌*◌, ◌/◌, ◌^◌, ◌&&◌, List, [], ◌∷◌, map, length, refl, sym, ap, ◌∙◌, subst, subst₂, arith, Bool, true, false, if◌then◌else◌, eq-eqb, eqb-true, pow-suc}
use Rattle.std.specs.Prelude.{Option, Some, None, option_map, Result, Ok, Err, ℤ, pos, negsuc, neg_ℤ, int_div, unsigned_abs, nat_lt, not}
use Rattle.std.specs.Option.{option_map_or}
use Rattle.std.specs.Int.{◌∣◌}
use Rattle.std.proofs.lemmas.Bool.{false≢true}
use native.Mathlib.Nat.{eq-one_of_dvd-one, pow-zero}
use Rattle.smc_num.specs.Gcd.{gcd_of}
use Rattle.smc_num.specs.Fraction.{Fraction, limit, within, lowest, fraction_of}
use Rattle.smc_num.specs.Arithmetic.{sum_of, difference_of, product_of, quotient_of, power_of, modulo_of, floor_of, ceil_of}
use Rattle.smc_num.specs.declared.fault.NumFault.{NumFault}
use Rattle.smc_num.specs.declared.fault.NumFault.TheVariants.{OutOfLimit}
use Rattle.smc_num.proofs.GcdLemmas.{gcd_of-IsGcd}
use Rattle.prism_syntax.specs.declared.expressions.Expr.{Expr, map-Expr}
use Rattle.prism_syntax.specs.declared.expressions.Expr.TheOpen.{Expr-F}
use Rattle.prism_syntax.specs.declared.expressions.Expr.TheOpen as top
use Rattle.prism_syntax.specs.declared.expressions.Expr.TheViews.{roll-Expr}
use Rattle.prism_syntax.specs.declared.expressions.Expr.TheFolds.{fold-roll-Expr, ind-Expr}
use Rattle.chain_model.specs.declared.outcome.TraceFault.{TraceFault}
use Rattle.chain_model.specs.declared.values.Sort.{Sort}
use Rattle.chain_model.specs.declared.values.Sort.TheVariants as sort
use Rattle.chain_model.specs.declared.values.Value.{Value}
use Rattle.chain_model.specs.declared.values.Value.TheVariants as v
use Rattle.chain_model.specs.declared.expressions.Func.{Func}
use Rattle.chain_model.specs.declared.expressions.Func.TheVariants as f
use Rattle.chain_model.specs.declared.expressions.Op.{Op}
use Rattle.chain_model.specs.declared.expressions.Op.TheVariants as o
use Rattle.chain_model.specs.Results.{◌>>=◌ as ◌>>=ᵥ◌}
use Rattle.chain_model.specs.Sorts.{◌>>=◌, is_of_sort, number_sort, truth_sort, common_sort, result_sort, link_sort, links_sort, is_level, level_sort, extreme_sort, rounded_sort, power_sort, remainder_sort, both_sorts, call_sort, negation_sort, opposite_sort, conditional_sort}
use Rattle.chain_model.specs.Typing.{if_sort}
use Rattle.chain_model.specs.Values.{Valued, truth, as_value, whole_value, remainder, apply_to_number, apply_to_numbers, is_below, is_above, both_result, join, links_value, level_value, extreme_value, lesser, greater, function_value, call_value}
use Rattle.prism_names.specs.First.{Name}
use Rattle.const_eval.specs.Tables.{op_of, func_of}
use Rattle.const_eval.specs.Sorting.{sort_step, sort_in}
use Rattle.const_eval.specs.Evaluating.{value_step, value_in}
use Rattle.const_eval.specs.Keeping.{IsOfSort, FitsFound, KeepsSorts}

-- ---- whole numbers

-- a number is whole, where there is one
abbrev Whole : Result Fraction NumFault → Type 0
Whole (Ok x) = x.den ≡ 1
Whole (Err fault) = Unit {0}

within_whole : (n : ℤ) (d : ℕ) → d ≡ 1 → Whole (within n d)
within_whole n d one = by (nat_lt (unsigned_abs n) limit && nat_lt d limit)
  where
    by : (b : Bool) → Whole (if b then Ok (record { num = n; den = d }) else Err OutOfLimit)
    by true = one
    by false = tt

lowest_whole : (n : ℤ) (d : ℕ) → d ≡ 1 → Whole (lowest n d)
unfolding lowest
lowest_whole n d one =
    let shared : ℕ = gcd_of (unsigned_abs n) d in
    let divides_one : shared ∣ 1 = subst (λ k. shared ∣ k) one ((gcd_of-IsGcd (unsigned_abs n) d).1) in
    within_whole (int_div n (pos shared)) (d / shared) (ap (λ k. k / shared) one ∙ ap (λ g. 1 / g) (eq-one_of_dvd-one divides_one))

fraction_whole : (n : ℤ) (d : ℕ) → d ≡ 1 → Whole (fraction_of n (pos d))
unfolding fraction_of
fraction_whole n zero one = absurd (omega (arith, one))
fraction_whole n (suc d) one = lowest_whole n (suc d) one

both_one : (a b : ℕ) → a ≡ 1 → b ≡ 1 → a * b ≡ 1
both_one a b p q = ap (λ k. k * b) p ∙ ap (λ k. 1 * k) q

sum_whole : (a b : Fraction) → a.den ≡ 1 → b.den ≡ 1 → Whole (sum_of a b)
unfolding sum_of
sum_whole a b p q = lowest_whole _ (a.den * b.den) (both_one a.den b.den p q)

difference_whole : (a b : Fraction) → a.den ≡ 1 → b.den ≡ 1 → Whole (difference_of a b)
unfolding difference_of
difference_whole a b p q = lowest_whole _ (a.den * b.den) (both_one a.den b.den p q)

product_whole : (a b : Fraction) → a.den ≡ 1 → b.den ≡ 1 → Whole (product_of a b)
unfolding product_of
product_whole a b p q = lowest_whole _ (a.den * b.den) (both_one a.den b.den p q)

one_power : (k : ℕ) → 1 ^ k ≡ 1
one_power zero = pow-zero 1
one_power (suc k) = pow-suc 1 k ∙ ap (λ n. n * 1) (one_power k)

power_whole : (a : Fraction) (k : ℤ) → a.den ≡ 1 → Whole (power_of a k)
unfolding power_of
power_whole a (pos k) p = lowest_whole _ (a.den ^ k) (ap (λ d. d ^ k) p ∙ one_power k)
power_whole a (negsuc k) p = tt

-- ---- what is of a sort

abbrev OfSort : Sort → Value → Type 0
OfSort s a = is_of_sort s a ≡ true

widened : (a : Value) → OfSort sort.Int a → OfSort sort.Double a
widened (v.Num x) p = refl
widened (v.Bool b) p = absurd (false≢true p)

pub widened_result : (r : Valued) → IsOfSort sort.Int r → IsOfSort sort.Double r
widened_result (Ok a) p = widened a p
widened_result (Err fault) p = tt

int_number : (r : Result Fraction NumFault) → Whole r → IsOfSort sort.Int (as_value r)
int_number (Ok x) whole = eq-eqb _ _ whole
int_number (Err fault) whole = tt

double_number : (r : Result Fraction NumFault) → IsOfSort sort.Double (as_value r)
double_number (Ok x) = refl
double_number (Err fault) = tt

whole_number : (n : ℤ) → IsOfSort sort.Int (whole_value n)
whole_number n = int_number (fraction_of n (pos 1)) (fraction_whole n 1 refl)

fault_fits : (found : Option Sort) (fault : TraceFault) → FitsFound found (Err fault)
fault_fits None fault = tt
fault_fits (Some s) fault = tt

-- what comes of a sort fits what comes of its value
then_fits : (found : Option Sort) (r : Valued) (h : Sort → Option Sort) (g : Value → Valued) → FitsFound found r
    → ((s : Sort) (a : Value) → OfSort s a → FitsFound (h s) (g a)) → FitsFound (found >>= h) (r >>=ᵥ g)
then_fits None r h g first next = tt
then_fits (Some s) (Ok a) h g first next = next s a first
then_fits (Some s) (Err fault) h g first next = fault_fits (h s) fault

-- ---- operators

int_pair : (g : Fraction → Fraction → Result Fraction NumFault) → ((x y : Fraction) → x.den ≡ 1 → y.den ≡ 1 → Whole (g x y))
    → (a b : Value) → OfSort sort.Int a → OfSort sort.Int b → IsOfSort sort.Int (apply_to_numbers (λ x y. as_value (g x y)) a b)
int_pair g whole (v.Num x) (v.Num y) p q = int_number (g x y) (whole x y (eqb-true _ _ p) (eqb-true _ _ q))
int_pair g whole (v.Num x) (v.Bool b) p q = absurd (false≢true q)
int_pair g whole (v.Bool a) b p q = absurd (false≢true p)

double_pair : (g : Fraction → Fraction → Result Fraction NumFault)
    → (a b : Value) → OfSort sort.Double a → OfSort sort.Double b → IsOfSort sort.Double (apply_to_numbers (λ x y. as_value (g x y)) a b)
double_pair g (v.Num x) (v.Num y) p q = double_number (g x y)
double_pair g (v.Num x) (v.Bool b) p q = absurd (false≢true q)
double_pair g (v.Bool a) b p q = absurd (false≢true p)

numbers_fit : (g : Fraction → Fraction → Result Fraction NumFault) → ((x y : Fraction) → x.den ≡ 1 → y.den ≡ 1 → Whole (g x y))
    → (s t : Sort) (a b : Value) → OfSort s a → OfSort t b → FitsFound (number_sort s t) (apply_to_numbers (λ x y. as_value (g x y)) a b)
numbers_fit g whole sort.Int sort.Int a b p q = int_pair g whole a b p q
numbers_fit g whole sort.Int sort.Double a b p q = double_pair g a b (widened a p) q
numbers_fit g whole sort.Int sort.Bool a b p q = tt
numbers_fit g whole sort.Double sort.Int a b p q = double_pair g a b p (widened b q)
numbers_fit g whole sort.Double sort.Double a b p q = double_pair g a b p q
numbers_fit g whole sort.Double sort.Bool a b p q = tt
numbers_fit g whole sort.Bool t a b p q = tt

quotient_fits : (s t : Sort) (a b : Value) → OfSort s a → OfSort t b
    → FitsFound (option_map (λ j. sort.Double) (number_sort s t)) (apply_to_numbers (λ x y. as_value (quotient_of x y)) a b)
quotient_fits sort.Int sort.Int a b p q = double_pair quotient_of a b (widened a p) (widened b q)
quotient_fits sort.Int sort.Double a b p q = double_pair quotient_of a b (widened a p) q
quotient_fits sort.Int sort.Bool a b p q = tt
quotient_fits sort.Double sort.Int a b p q = double_pair quotient_of a b p (widened b q)
quotient_fits sort.Double sort.Double a b p q = double_pair quotient_of a b p q
quotient_fits sort.Double sort.Bool a b p q = tt
quotient_fits sort.Bool t a b p q = tt

truth_fits : (s t : Sort) (b : Bool) → FitsFound (truth_sort s t) (Ok (v.Bool b))
truth_fits sort.Int t b = tt
truth_fits sort.Double t b = tt
truth_fits sort.Bool sort.Int b = tt
truth_fits sort.Bool sort.Double b = tt
truth_fits sort.Bool sort.Bool b = refl

right_fits : (s t : Sort) (b : Value) → OfSort t b → FitsFound (truth_sort s t) (Ok b)
right_fits sort.Int t b q = tt
right_fits sort.Double t b q = tt
right_fits sort.Bool sort.Int b q = tt
right_fits sort.Bool sort.Double b q = tt
right_fits sort.Bool sort.Bool b q = q

answer_fits : (found : Option Sort) (b : Bool) → FitsFound (option_map (λ j. sort.Bool) found) (Ok (v.Bool b))
answer_fits None b = tt
answer_fits (Some s) b = refl

both_fit : (op : Op) (s t : Sort) (a b : Value) → OfSort s a → OfSort t b → FitsFound (result_sort op s t) (both_result op a b)
both_fit o.And s t a b p q = right_fits s t b q
both_fit o.Or s t a b p q = right_fits s t b q
both_fit o.Imp s t a b p q = right_fits s t b q
both_fit o.Iff s t a b p q = truth_fits s t _
both_fit o.Eq s t a b p q = answer_fits (common_sort s t) _
both_fit o.Ne s t a b p q = answer_fits (common_sort s t) _
both_fit o.Lt s t a b p q = answer_fits (number_sort s t) _
both_fit o.Le s t a b p q = answer_fits (number_sort s t) _
both_fit o.Gt s t a b p q = answer_fits (number_sort s t) _
both_fit o.Ge s t a b p q = answer_fits (number_sort s t) _
both_fit o.Add s t a b p q = numbers_fit sum_of sum_whole s t a b p q
both_fit o.Sub s t a b p q = numbers_fit difference_of difference_whole s t a b p q
both_fit o.Mul s t a b p q = numbers_fit product_of product_whole s t a b p q
both_fit o.Div s t a b p q = quotient_fits s t a b p q

truth_link : (s : Sort) (found : Option Sort) (b : Bool) → FitsFound (found >>= truth_sort s) (Ok (v.Bool b))
truth_link s None b = tt
truth_link s (Some t) b = truth_fits s t b

decided_fits : (found : Option Sort) (b : Bool) (x y : Option Value) (rest : Valued) → FitsFound found (option_map_or Ok x rest) → FitsFound found (option_map_or Ok y rest)
    → FitsFound found (option_map_or Ok (if b then x else y) rest)
decided_fits found true x y rest p q = p
decided_fits found false x y rest p q = q

join_fits : (op : Op) (s : Sort) (a : Value) (found : Option Sort) (r : Valued) → OfSort s a → FitsFound found r → FitsFound (link_sort op s found) (join op a r)
join_fits op s a found r p first = by op (then_fits found r (result_sort op s) (both_result op a) first (λ t b q. both_fit op s t a b p q))
  where
    by : (op : Op) → FitsFound (link_sort op s found) (r >>=ᵥ both_result op a) → FitsFound (link_sort op s found) (join op a r)
    by o.And rest = decided_fits (link_sort o.And s found) (truth a) None (Some (v.Bool false)) (r >>=ᵥ both_result o.And a) rest (truth_link s found false)
    by o.Or rest = decided_fits (link_sort o.Or s found) (truth a) (Some (v.Bool true)) None (r >>=ᵥ both_result o.Or a) (truth_link s found true) rest
    by o.Imp rest = decided_fits (link_sort o.Imp s found) (truth a) None (Some (v.Bool true)) (r >>=ᵥ both_result o.Imp a) rest (truth_link s found true)
    by o.Iff rest = rest
    by o.Eq rest = rest
    by o.Ne rest = rest
    by o.Lt rest = rest
    by o.Le rest = rest
    by o.Gt rest = rest
    by o.Ge rest = rest
    by o.Add rest = rest
    by o.Sub rest = rest
    by o.Mul rest = rest
    by o.Div rest = rest

-- ---- chains and calls

-- each of these results fits what was found of it
abbrev AllFit : List (Option Sort) → List Valued → Type 0
AllFit [] [] = Unit {0}
AllFit (found ∷ others) (r ∷ rs) = FitsFound found r × AllFit others rs
AllFit _ _ = ⊥

links_fit : (s : Sort) (a : Value) (found : List (Option Sort)) (rs : List Valued) (ops : List Op) → OfSort s a → AllFit found rs
    → FitsFound (links_sort s found ops) (links_value a rs ops)
links_fit s a [] [] ops p all = p
links_fit s a [] (r ∷ rs) ops p all = absurd all
links_fit s a (one ∷ others) [] ops p all = absurd all
links_fit s a (one ∷ others) (r ∷ rs) [] p all = p
links_fit s a (one ∷ others) (r ∷ rs) (op ∷ ops) p all =
    then_fits (link_sort op s one) (join op a r) (λ j. links_sort j others ops) (λ b. links_value b rs ops) (join_fits op s a one r p all.0)
    (λ j b q. links_fit j b others rs ops q all.1)

guarded : (b : Bool) (found : Option Sort) (r : Valued) → FitsFound found r → FitsFound (if b then found else None) r
guarded true found r fits = fits
guarded false found r fits = tt

level_fits : (found : List (Option Sort)) (rs : List Valued) (ops : List Op) → AllFit found rs → FitsFound (level_sort found ops) (level_value rs ops)
level_fits [] rs ops all = tt
level_fits (one ∷ others) [] ops all = absurd all
level_fits (one ∷ others) (r ∷ rs) [] all = tt
level_fits (one ∷ others) (r ∷ rs) (op ∷ ops) all =
    guarded (is_level (length others) op ops) (one >>= (λ s. links_sort s others (op ∷ ops))) (r >>=ᵥ (λ a. links_value a rs (op ∷ ops)))
    (then_fits one r (λ s. links_sort s others (op ∷ ops)) (λ a. links_value a rs (op ∷ ops)) all.0 (λ s a p. links_fit s a others rs (op ∷ ops) p all.1))

either_fits : (c : Bool) (s : Sort) (a b : Value) → OfSort s a → OfSort s b → OfSort s (if c then b else a)
either_fits true s a b p q = q
either_fits false s a b p q = p

chosen_fits : (c : Bool) (s t : Sort) (a b : Value) → OfSort s a → OfSort t b → FitsFound (number_sort s t) (Ok (if c then b else a))
chosen_fits c sort.Int sort.Int a b p q = either_fits c sort.Int a b p q
chosen_fits c sort.Int sort.Double a b p q = either_fits c sort.Double a b (widened a p) q
chosen_fits c sort.Int sort.Bool a b p q = tt
chosen_fits c sort.Double sort.Int a b p q = either_fits c sort.Double a b p (widened b q)
chosen_fits c sort.Double sort.Double a b p q = either_fits c sort.Double a b p q
chosen_fits c sort.Double sort.Bool a b p q = tt
chosen_fits c sort.Bool t a b p q = tt

extreme_fits : (chosen : Value → Value → Value) → ((s t : Sort) (a b : Value) → OfSort s a → OfSort t b → FitsFound (number_sort s t) (Ok (chosen a b)))
    → (s : Sort) (a : Value) (found : List (Option Sort)) (rs : List Valued) → OfSort s a → AllFit found rs → FitsFound (extreme_sort s found) (extreme_value chosen a rs)
extreme_fits chosen each s a [] [] p all = p
extreme_fits chosen each s a [] (r ∷ rs) p all = absurd all
extreme_fits chosen each s a (one ∷ others) [] p all = absurd all
extreme_fits chosen each s a (one ∷ others) (r ∷ rs) p all =
    then_fits one r (λ t. number_sort s t >>= λ j. extreme_sort j others) (λ b. extreme_value chosen (chosen a b) rs) all.0
    (λ t b q. then_fits (number_sort s t) (Ok (chosen a b)) (λ j. extreme_sort j others) (λ x. extreme_value chosen x rs) (each s t a b p q)
    (λ j x z. extreme_fits chosen each j x others rs z all.1))

min_fits : (found : List (Option Sort)) (rs : List Valued) → AllFit found rs → FitsFound (call_sort f.Min found) (call_value f.Min rs)
min_fits [] rs all = tt
min_fits (one ∷ []) rs all = tt
min_fits (one ∷ (two ∷ others)) [] all = absurd all
min_fits (one ∷ (two ∷ others)) (r ∷ rs) all =
    then_fits one r (λ s. extreme_sort s (two ∷ others)) (λ a. function_value f.Min a rs) all.0
    (λ s a p. extreme_fits lesser (λ s t a b. chosen_fits (is_below b a) s t a b) s a (two ∷ others) rs p all.1)

max_fits : (found : List (Option Sort)) (rs : List Valued) → AllFit found rs → FitsFound (call_sort f.Max found) (call_value f.Max rs)
max_fits [] rs all = tt
max_fits (one ∷ []) rs all = tt
max_fits (one ∷ (two ∷ others)) [] all = absurd all
max_fits (one ∷ (two ∷ others)) (r ∷ rs) all =
    then_fits one r (λ s. extreme_sort s (two ∷ others)) (λ a. function_value f.Max a rs) all.0
    (λ s a p. extreme_fits greater (λ s t a b. chosen_fits (is_above b a) s t a b) s a (two ∷ others) rs p all.1)

rounded_fits : (g : Fraction → ℤ) (s : Sort) (a : Value) → OfSort s a → FitsFound (rounded_sort s) (apply_to_number (λ x. whole_value (g x)) a)
rounded_fits g sort.Int (v.Num x) p = whole_number (g x)
rounded_fits g sort.Int (v.Bool b) p = absurd (false≢true p)
rounded_fits g sort.Double (v.Num x) p = whole_number (g x)
rounded_fits g sort.Double (v.Bool b) p = absurd (false≢true p)
rounded_fits g sort.Bool a p = tt

floor_fits : (found : List (Option Sort)) (rs : List Valued) → AllFit found rs → FitsFound (call_sort f.Floor found) (call_value f.Floor rs)
floor_fits [] rs all = tt
floor_fits (one ∷ []) [] all = absurd all
floor_fits (one ∷ []) (r ∷ rs) all = then_fits one r rounded_sort (λ a. function_value f.Floor a rs) all.0 (λ s a p. rounded_fits floor_of s a p)
floor_fits (one ∷ (two ∷ others)) rs all = tt

ceil_fits : (found : List (Option Sort)) (rs : List Valued) → AllFit found rs → FitsFound (call_sort f.Ceil found) (call_value f.Ceil rs)
ceil_fits [] rs all = tt
ceil_fits (one ∷ []) [] all = absurd all
ceil_fits (one ∷ []) (r ∷ rs) all = then_fits one r rounded_sort (λ a. function_value f.Ceil a rs) all.0 (λ s a p. rounded_fits ceil_of s a p)
ceil_fits (one ∷ (two ∷ others)) rs all = tt

-- what comes of two sorts fits what comes of their values
two_fit : (h : Sort → Sort → Option Sort) (g : Value → Value → Valued) → ((s t : Sort) (a b : Value) → OfSort s a → OfSort t b → FitsFound (h s t) (g a b))
    → (one two : Option Sort) (r q : Valued) → FitsFound one r → FitsFound two q
    → FitsFound (both_sorts (one ∷ (two ∷ [])) >>= λ u. h u.0 u.1) (r >>=ᵥ λ a. q >>=ᵥ g a)
two_fit h g each None two r q first second = tt
two_fit h g each (Some s) None r q first second = tt
two_fit h g each (Some s) (Some t) (Err fault) q first second = fault_fits (h s t) fault
two_fit h g each (Some s) (Some t) (Ok a) (Err fault) first second = fault_fits (h s t) fault
two_fit h g each (Some s) (Some t) (Ok a) (Ok b) first second = each s t a b first second

power_fits : (s t : Sort) (a b : Value) → OfSort s a → OfSort t b → FitsFound (power_sort s t) (apply_to_numbers (λ x k. as_value (power_of x k.num)) a b)
power_fits sort.Int sort.Int a b p q = int_pair (λ x k. power_of x k.num) (λ x k one other. power_whole x k.num one) a b p q
power_fits sort.Int sort.Double a b p q = tt
power_fits sort.Int sort.Bool a b p q = tt
power_fits sort.Double sort.Int a b p q = double_pair (λ x k. power_of x k.num) a b p (widened b q)
power_fits sort.Double sort.Double a b p q = tt
power_fits sort.Double sort.Bool a b p q = tt
power_fits sort.Bool t a b p q = tt

remainder_number : (r : Result ℤ NumFault) → IsOfSort sort.Int (remainder r)
remainder_number (Ok n) = whole_number n
remainder_number (Err fault) = tt

remainder_pair : (a b : Value) → OfSort sort.Int a → OfSort sort.Int b → IsOfSort sort.Int (apply_to_numbers (λ i n. remainder (modulo_of i.num n.num)) a b)
remainder_pair (v.Num x) (v.Num y) p q = remainder_number (modulo_of x.num y.num)
remainder_pair (v.Num x) (v.Bool b) p q = absurd (false≢true q)
remainder_pair (v.Bool a) b p q = absurd (false≢true p)

remainder_fits : (s t : Sort) (a b : Value) → OfSort s a → OfSort t b → FitsFound (remainder_sort s t) (apply_to_numbers (λ i n. remainder (modulo_of i.num n.num)) a b)
remainder_fits sort.Int sort.Int a b p q = remainder_pair a b p q
remainder_fits sort.Int sort.Double a b p q = tt
remainder_fits sort.Int sort.Bool a b p q = tt
remainder_fits sort.Double t a b p q = tt
remainder_fits sort.Bool t a b p q = tt

pow_fits : (found : List (Option Sort)) (rs : List Valued) → AllFit found rs → FitsFound (call_sort f.Pow found) (call_value f.Pow rs)
pow_fits [] rs all = tt
pow_fits (one ∷ []) rs all = tt
pow_fits (one ∷ (two ∷ [])) [] all = absurd all
pow_fits (one ∷ (two ∷ [])) (r ∷ []) all = absurd all.1
pow_fits (one ∷ (two ∷ [])) (r ∷ (q ∷ rs)) all = two_fit power_sort (λ a. apply_to_numbers (λ x k. as_value (power_of x k.num)) a) power_fits one two r q all.0 all.1.0
pow_fits (one ∷ (two ∷ (three ∷ others))) rs all = tt

mod_fits : (found : List (Option Sort)) (rs : List Valued) → AllFit found rs → FitsFound (call_sort f.Mod found) (call_value f.Mod rs)
mod_fits [] rs all = tt
mod_fits (one ∷ []) rs all = tt
mod_fits (one ∷ (two ∷ [])) [] all = absurd all
mod_fits (one ∷ (two ∷ [])) (r ∷ []) all = absurd all.1
mod_fits (one ∷ (two ∷ [])) (r ∷ (q ∷ rs)) all =
    two_fit remainder_sort (λ a. apply_to_numbers (λ i n. remainder (modulo_of i.num n.num)) a) remainder_fits one two r q all.0 all.1.0
mod_fits (one ∷ (two ∷ (three ∷ others))) rs all = tt

call_fits : (func : Func) (found : List (Option Sort)) (rs : List Valued) → AllFit found rs → FitsFound (call_sort func found) (call_value func rs)
call_fits f.Min found rs all = min_fits found rs all
call_fits f.Max found rs all = max_fits found rs all
call_fits f.Floor found rs all = floor_fits found rs all
call_fits f.Ceil found rs all = ceil_fits found rs all
call_fits f.Pow found rs all = pow_fits found rs all
call_fits f.Mod found rs all = mod_fits found rs all

-- ---- signs and conditionals

negation_fits : (s : Sort) (b : Bool) → FitsFound (negation_sort s) (Ok (v.Bool b))
negation_fits sort.Int b = tt
negation_fits sort.Double b = tt
negation_fits sort.Bool b = refl

opposite_fits : (s : Sort) (a : Value) → OfSort s a → FitsFound (opposite_sort s) (apply_to_number (λ n. as_value (fraction_of (neg_ℤ n.num) (pos n.den))) a)
opposite_fits sort.Int (v.Num x) p = int_number (fraction_of (neg_ℤ x.num) (pos x.den)) (fraction_whole (neg_ℤ x.num) x.den (eqb-true _ _ p))
opposite_fits sort.Int (v.Bool b) p = absurd (false≢true p)
opposite_fits sort.Double (v.Num x) p = double_number (fraction_of (neg_ℤ x.num) (pos x.den))
opposite_fits sort.Double (v.Bool b) p = absurd (false≢true p)
opposite_fits sort.Bool a p = tt

branch_fits : (c : Bool) (s : Sort) (r q : Valued) → IsOfSort s r → IsOfSort s q → IsOfSort s (if c then r else q)
branch_fits true s r q first second = first
branch_fits false s r q first second = second

common_fits : (c : Bool) (s t : Sort) (r q : Valued) → IsOfSort s r → IsOfSort t q → FitsFound (common_sort s t) (if c then r else q)
common_fits c sort.Int sort.Int r q first second = branch_fits c sort.Int r q first second
common_fits c sort.Int sort.Double r q first second = branch_fits c sort.Double r q (widened_result r first) second
common_fits c sort.Int sort.Bool r q first second = tt
common_fits c sort.Double sort.Int r q first second = branch_fits c sort.Double r q first (widened_result q second)
common_fits c sort.Double sort.Double r q first second = branch_fits c sort.Double r q first second
common_fits c sort.Double sort.Bool r q first second = tt
common_fits c sort.Bool sort.Int r q first second = tt
common_fits c sort.Bool sort.Double r q first second = tt
common_fits c sort.Bool sort.Bool r q first second = branch_fits c sort.Bool r q first second

if_fits : (c x y : Option Sort) (w r q : Valued) → FitsFound x r → FitsFound y q → FitsFound (if_sort c x y) (w >>=ᵥ λ a. if truth a then r else q)
if_fits None x y w r q first second = tt
if_fits (Some k) None y w r q first second = tt
if_fits (Some k) (Some s) None w r q first second = tt
if_fits (Some k) (Some s) (Some t) (Err fault) r q first second = fault_fits (conditional_sort k s t) fault
if_fits (Some sort.Int) (Some s) (Some t) (Ok a) r q first second = tt
if_fits (Some sort.Double) (Some s) (Some t) (Ok a) r q first second = tt
if_fits (Some sort.Bool) (Some s) (Some t) (Ok a) r q first second = common_fits (truth a) s t r q first second

literal_fits : (b : Bool) (a : Value) → is_of_sort sort.Int a ≡ b → FitsFound (if b then Some sort.Int else None) (Ok a)
literal_fits true a e = e
literal_fits false a e = tt

-- ---- expressions

-- the value of an expression is of its sort
abbrev Fits : (Name → Option Sort) → (Name → Valued) → Expr → Type 0
Fits sorts values x = FitsFound (sort_in sorts x) (value_in values x)

abbrev Under : (Name → Option Sort) → (Name → Valued) → Type 0
Under sorts values = (x : Expr) × Fits sorts values x

all_fit : (sorts : Name → Option Sort) (values : Name → Valued) (ps : List (Under sorts values))
    → AllFit (map (sort_in sorts) (map (λ p. p.0) ps)) (map (value_in values) (map (λ p. p.0) ps))
all_fit sorts values [] = tt
all_fit sorts values (p ∷ ps) = (p.1, all_fit sorts values ps)

layer : (sorts : Name → Option Sort) (values : Name → Valued) → ((n : Name) → FitsFound (sorts n) (values n)) → (y : Expr-F (Under sorts values))
    → FitsFound (sort_step sorts (map-Expr Expr (Option Sort) (sort_in sorts) (map-Expr (Under sorts values) Expr (λ p. p.0) y)))
    (value_step values (map-Expr Expr Valued (value_in values) (map-Expr (Under sorts values) Expr (λ p. p.0) y)))
layer sorts values each (top.Whole x) = literal_fits (is_of_sort sort.Int (v.Num x)) (v.Num x) refl
layer sorts values each (top.Real x) = refl
layer sorts values each (top.Truth x) = refl
layer sorts values each (top.Name n) = each n
layer sorts values each (top.Quoted n) = tt
layer sorts values each (top.Paren p) = p.1
layer sorts values each (top.Call h ps) =
    call_fits (func_of h) (map (sort_in sorts) (map (λ p. p.0) ps)) (map (value_in values) (map (λ p. p.0) ps)) (all_fit sorts values ps)
layer sorts values each (top.Not p) = then_fits (sort_in sorts p.0) (value_in values p.0) negation_sort _ p.1 (λ s a z. negation_fits s (not (truth a)))
layer sorts values each (top.Minus p) = then_fits (sort_in sorts p.0) (value_in values p.0) opposite_sort _ p.1 (λ s a z. opposite_fits s a z)
layer sorts values each (top.Level ps os) =
    level_fits (map (sort_in sorts) (map (λ p. p.0) ps)) (map (value_in values) (map (λ p. p.0) ps)) (map op_of os) (all_fit sorts values ps)
layer sorts values each (top.If p q r) =
    if_fits (sort_in sorts p.0) (sort_in sorts q.0) (sort_in sorts r.0) (value_in values p.0) (value_in values q.0) (value_in values r.0) q.1 r.1

pub keeps_sorts : KeepsSorts
keeps_sorts sorts values each = ind-Expr (Fits sorts values) (λ x y is. subst (λ z. Fits sorts values (roll-Expr z)) is
    (let z = map-Expr (Under sorts values) Expr (λ p. p.0) y in
    subst₂ FitsFound (sym (fold-roll-Expr (Option Sort) (sort_step sorts) z)) (sym (fold-roll-Expr Valued (value_step values) z)) (layer sorts values each y)))
