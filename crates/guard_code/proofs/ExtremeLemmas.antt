-- The least and the greatest of whole numbers, and remainders.
use Rattle.std.proofs.Common.{◌≡◌, List, [], ◌∷◌, map, Bool, true, false, ℤ, unsigned_abs, int_lt, refl, sym, ◌∙◌, ap, Ok, Err, nat_lt}
use Rattle.std.specs.Prelude.{Result, if◌then◌else◌}
use Rattle.smc_num.specs.declared.fault.NumFault.{NumFault}
use Rattle.smc_num.specs.Fraction.{limit}
use Rattle.smc_num.specs.Arithmetic.{modulo_of}
use Rattle.chain_model.specs.declared.values.Value.TheVariants as v
use Rattle.chain_model.specs.declared.expressions.Func.{Func}
use Rattle.chain_model.specs.declared.expressions.Func.TheVariants as f
use Rattle.chain_model.specs.Results.{◌>>=◌}
use Rattle.chain_model.specs.Values.{Valued, whole_value, remainder, lesser, greater, extreme_value, function_value, call_value}
use Rattle.guard_code.specs.Wholes.{stored_of, as_whole, as_result, extreme_after, extreme_result, remainder_result}
use Rattle.guard_code.specs.Shapes.{is_extreme}
use Rattle.guard_code.proofs.WholeLemmas.{numbered, as_whole_small, less-one, WholeValued, whole_fault, whole_number}
use Rattle.guard_code.proofs.ChainLemmas.{AllWhole}

-- what `min` chooses, from any whole number on
abbrev Leasts : List Valued → Type 0
Leasts xs = (n : ℤ) → nat_lt (unsigned_abs n) limit ≡ true → extreme_value lesser (numbered n) xs ≡ as_whole (extreme_after f.Min n (map stored_of xs))

least_of : (xs : List Valued) (n : ℤ) → nat_lt (unsigned_abs n) limit ≡ true → AllWhole xs
    → extreme_value lesser (numbered n) xs ≡ as_whole (extreme_after f.Min n (map stored_of xs))
unfolding AllWhole as_whole
least_of [] n small all = sym (as_whole_small n small)
least_of (x ∷ xs) n small all = here x all.0 (λ m lt. least_of xs m lt all.1)
  where
    chosen : (b : ℤ) → nat_lt (unsigned_abs b) limit ≡ true → Leasts xs → (h : Bool)
        → extreme_value lesser (if h then numbered b else numbered n) xs ≡ as_whole (extreme_after f.Min (if h then b else n) (map stored_of xs))
    chosen b is more true = more b is
    chosen b is more false = more n small

    here : (x : Valued) → WholeValued x → Leasts xs → extreme_value lesser (numbered n) (x ∷ xs) ≡ as_whole (extreme_after f.Min n (stored_of x ∷ map stored_of xs))
    here (Err g) (whole_fault h) more = refl
    here (Ok (v.Bool b)) p more = elim p [ ]
    here (Ok (v.Num y)) (whole_number b is) more =
        ap (λ (h : Bool). extreme_value lesser (if h then numbered b else numbered n) xs) (less-one b n) ∙ chosen b is more (int_lt b n)

-- what `max` chooses, from any whole number on
abbrev Greatests : List Valued → Type 0
Greatests xs = (n : ℤ) → nat_lt (unsigned_abs n) limit ≡ true → extreme_value greater (numbered n) xs ≡ as_whole (extreme_after f.Max n (map stored_of xs))

greatest_of : (xs : List Valued) (n : ℤ) → nat_lt (unsigned_abs n) limit ≡ true → AllWhole xs
    → extreme_value greater (numbered n) xs ≡ as_whole (extreme_after f.Max n (map stored_of xs))
unfolding AllWhole as_whole
greatest_of [] n small all = sym (as_whole_small n small)
greatest_of (x ∷ xs) n small all = here x all.0 (λ m lt. greatest_of xs m lt all.1)
  where
    chosen : (b : ℤ) → nat_lt (unsigned_abs b) limit ≡ true → Greatests xs → (h : Bool)
        → extreme_value greater (if h then numbered b else numbered n) xs ≡ as_whole (extreme_after f.Max (if h then b else n) (map stored_of xs))
    chosen b is more true = more b is
    chosen b is more false = more n small

    here : (x : Valued) → WholeValued x → Greatests xs → extreme_value greater (numbered n) (x ∷ xs) ≡ as_whole (extreme_after f.Max n (stored_of x ∷ map stored_of xs))
    here (Err g) (whole_fault h) more = refl
    here (Ok (v.Bool b)) p more = elim p [ ]
    here (Ok (v.Num y)) (whole_number b is) more =
        ap (λ (h : Bool). extreme_value greater (if h then numbered b else numbered n) xs) (less-one n b) ∙ chosen b is more (int_lt n b)

of_function : (func : Func) (xs : List Valued) (n : ℤ) → is_extreme func ≡ true → nat_lt (unsigned_abs n) limit ≡ true → AllWhole xs
    → function_value func (numbered n) xs ≡ as_whole (extreme_after func n (map stored_of xs))
of_function f.Min xs n is small all = least_of xs n small all
of_function f.Max xs n is small all = greatest_of xs n small all
of_function f.Floor xs n is small all = absurd (cc)
of_function f.Ceil xs n is small all = absurd (cc)
of_function f.Pow xs n is small all = absurd (cc)
of_function f.Mod xs n is small all = absurd (cc)

-- a call of `min` or `max` with whole numbers
pub extreme_law : (func : Func) (x : Valued) (xs : List Valued) → is_extreme func ≡ true → AllWhole (x ∷ xs)
    → call_value func (x ∷ xs) ≡ as_whole (extreme_result func (map stored_of (x ∷ xs)))
unfolding AllWhole as_whole
extreme_law func x xs is all = here x all.0
  where
    here : (x : Valued) → WholeValued x → call_value func (x ∷ xs) ≡ as_whole (extreme_result func (stored_of x ∷ map stored_of xs))
    here (Err g) (whole_fault h) = refl
    here (Ok (v.Bool b)) p = elim p [ ]
    here (Ok (v.Num y)) (whole_number n small) = of_function func xs n is small all.1

-- a call of `mod` with whole numbers
pub remainder_law : (x y : Valued) → WholeValued x → WholeValued y
    → call_value f.Mod (x ∷ (y ∷ [])) ≡ as_whole (remainder_result (stored_of x ∷ (stored_of y ∷ [])))
unfolding as_whole
remainder_law (Err g) y (whole_fault h) q = refl
remainder_law (Ok (v.Bool b)) y p q = elim p [ ]
remainder_law (Ok (v.Num z)) (Err g) (whole_number a small) (whole_fault h) = refl
remainder_law (Ok (v.Num z)) (Ok (v.Bool b)) p q = elim q [ ]
remainder_law (Ok (v.Num z)) (Ok (v.Num u)) (whole_number a small) (whole_number b small') = here (modulo_of a b)
  where
    here : (r : Result ℤ NumFault) → remainder r ≡ (as_result r >>= whole_value)
    here (Ok n) = refl
    here (Err g) = refl
