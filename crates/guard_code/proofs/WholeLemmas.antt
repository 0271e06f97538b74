-- Whole numbers as values: a fraction of denominator 1, or the fault of being outside the limits.
use Rattle.std.proofs.Common.{◌≡◌, ℕ, Bool, true, false, ℤ, pos, ◌+ℤ◌, ◌-ℤ◌, ◌*ℤ◌, unsigned_abs, int_lt, refl, sym, ◌∙◌, ap, ap₂, arith, Ok, Err, nat_lt, ◌&&◌}
use Rattle.std.proofs.lemmas.Grind.{common_steps}
use Rattle.std.specs.Prelude.{if◌then◌else◌}
use Rattle.std.specs.Ordering.{int_eq, int_cmp, is_eq}
use Rattle.std.specs.declared.cmp.Ordering.TheVariants.{Less, Equal, Greater}
use Rattle.smc_num.specs.Fraction.{Fraction, limit, within, lowest, fraction_of}
use Rattle.smc_num.specs.Arithmetic.{sum_of, difference_of, product_of, quotient_of, compare_of}
use Rattle.smc_num.proofs.GcdLemmas.{coprime_one}
use Rattle.smc_num.proofs.LowestLemmas.{lowest_is, signed_of}
use Rattle.smc_num.specs.declared.fault.NumFault.TheVariants as num
use Rattle.chain_model.specs.declared.outcome.TraceFault.{TraceFault}
use Rattle.chain_model.specs.declared.outcome.TraceFault.TheVariants.{OutOfLimit}
use Rattle.chain_model.specs.declared.values.Value.{Value}
use Rattle.chain_model.specs.declared.values.Value.TheVariants as v
use Rattle.chain_model.specs.Results.{◌>>=◌}
use Rattle.chain_model.specs.Values.{Valued, as_value, whole_value, is_equal, is_less}
use Rattle.guard_code.specs.Wholes.{WholeResult, TruthResult, stored_of, truth_of, as_whole, as_truth, limited}

-- a whole number as a fraction, and as a value
abbrev pub over_one : ℤ → Fraction
over_one n = record { num = n; den = 1 }

abbrev pub numbered : ℤ → Value
numbered n = v.Num (over_one n)

abbrev pub as_number : WholeResult → Valued
as_number r = r >>= λ n. Ok (numbered n)

times_by : (n : ℤ) (d : ℕ) → d ≡ 1 → n *ℤ pos d ≡ n
times_by n d e = grind (arith, common_steps, e)

pub times_one : (n : ℤ) → n *ℤ pos 1 ≡ n
times_one n = times_by n 1 refl

pub lowest_one : (n : ℤ) → lowest n 1 ≡ within n 1
lowest_one n =
    lowest_is n 1 (int_lt n (pos 0)) (unsigned_abs n) 1 (omega arith) (coprime_one (unsigned_abs n)) (signed_of n) refl
    ∙ ap (λ (z : ℤ). within z 1) (sym (signed_of n))

within_one : (n : ℤ) → as_value (within n 1) ≡ as_number (limited n)
within_one n = go (nat_lt (unsigned_abs n) limit)
  where
    go : (b : Bool) → as_value (if b && nat_lt 1 limit then Ok (over_one n) else Err num.OutOfLimit) ≡ as_number (if b then Ok n else Err OutOfLimit)
    go true = refl
    go false = refl

lowest_whole : (n : ℤ) → as_value (lowest n 1) ≡ as_number (limited n)
lowest_whole n = ap as_value (lowest_one n) ∙ within_one n

pub whole_value-is : (n : ℤ) → whole_value n ≡ as_number (limited n)
unfolding fraction_of
whole_value-is n = lowest_whole n

-- a number within the limits
pub small_whole : (n : ℤ) → nat_lt (unsigned_abs n) limit ≡ true → whole_value n ≡ Ok (numbered n)
small_whole n is = whole_value-is n ∙ ap (λ (b : Bool). as_number (if b then Ok n else Err OutOfLimit)) is

stored_number : (r : WholeResult) → stored_of (as_number r) ≡ r
stored_number (Ok n) = refl
stored_number (Err f) = refl

-- how a whole number stands in a state
pub stored_whole : (n : ℤ) → stored_of (whole_value n) ≡ limited n
stored_whole n = ap stored_of (whole_value-is n) ∙ stored_number (limited n)

pub whole_limited : (n : ℤ) → (limited n >>= whole_value) ≡ whole_value n
whole_limited n = go (nat_lt (unsigned_abs n) limit) refl
  where
    go : (b : Bool) → nat_lt (unsigned_abs n) limit ≡ b → ((if b then Ok n else Err OutOfLimit) >>= whole_value) ≡ whole_value n
    go true is = refl
    go false is = sym (whole_value-is n ∙ ap (λ (b : Bool). as_number (if b then Ok n else Err OutOfLimit)) is)

-- what is done to fractions of denominator 1
pub sum-one : (a b : ℤ) → as_value (sum_of (over_one a) (over_one b)) ≡ as_number (limited (a +ℤ b))
unfolding sum_of
sum-one a b = ap₂ (λ (x y : ℤ). as_value (lowest (x +ℤ y) 1)) (times_one a) (times_one b) ∙ lowest_whole (a +ℤ b)

pub difference-one : (a b : ℤ) → as_value (difference_of (over_one a) (over_one b)) ≡ as_number (limited (a -ℤ b))
unfolding difference_of
difference-one a b = ap₂ (λ (x y : ℤ). as_value (lowest (x -ℤ y) 1)) (times_one a) (times_one b) ∙ lowest_whole (a -ℤ b)

pub product-one : (a b : ℤ) → as_value (product_of (over_one a) (over_one b)) ≡ as_number (limited (a *ℤ b))
unfolding product_of
product-one a b = lowest_whole (a *ℤ b)

one_times : (n : ℤ) (d : ℕ) → d ≡ 1 → pos d *ℤ n ≡ n
one_times n d e = grind (arith, common_steps, e)

pub quotient-one : (a b : ℤ) → quotient_of (over_one a) (over_one b) ≡ fraction_of a b
unfolding quotient_of
quotient-one a b = ap₂ fraction_of (times_one a) (one_times b 1 refl)

compare-one : (a b : ℤ) → compare_of (over_one a) (over_one b) ≡ int_cmp a b
unfolding compare_of
compare-one a b = ap₂ int_cmp (times_one a) (times_one b)

pub equal-one : (a b : ℤ) → is_equal (compare_of (over_one a) (over_one b)) ≡ int_eq a b
equal-one a b = ap is_equal (compare-one a b) ∙ go (int_lt a b) (int_lt b a)
  where
    go : (x y : Bool) → is_equal (if x then Less else (if y then Greater else Equal)) ≡ is_eq (if x then Less else (if y then Greater else Equal))
    go true y = refl
    go false true = refl
    go false false = refl

pub less-one : (a b : ℤ) → is_less (compare_of (over_one a) (over_one b)) ≡ int_lt a b
less-one a b = ap is_less (compare-one a b) ∙ go (int_lt a b) (int_lt b a)
  where
    go : (x y : Bool) → is_less (if x then Less else (if y then Greater else Equal)) ≡ x
    go true y = refl
    go false true = refl
    go false false = refl

-- ---- values that are whole numbers within the limits, and values that are truth values

pub data WholeValued : Valued → Type 0 where
  whole_fault : (f : TraceFault) → WholeValued (Err f)
  whole_number : (n : ℤ) → nat_lt (unsigned_abs n) limit ≡ true → WholeValued (Ok (numbered n))

pub data TruthValued : Valued → Type 0 where
  truth_fault : (f : TraceFault) → TruthValued (Err f)
  truth_value : (b : Bool) → TruthValued (Ok (v.Bool b))

-- ---- a value that is made of a whole number, or of a truth value, is what that gives again

stored_again : (n : ℤ) → (stored_of (whole_value n) >>= whole_value) ≡ whole_value n
stored_again n = ap (λ (r : WholeResult). r >>= whole_value) (stored_whole n) ∙ whole_limited n

pub stored_as_whole : (r : WholeResult) → stored_of (as_whole r) ≡ (r >>= limited)
unfolding as_whole
stored_as_whole (Ok n) = stored_whole n
stored_as_whole (Err f) = refl

pub as_whole_limited : (n : ℤ) → as_whole (limited n) ≡ as_whole (Ok n)
unfolding as_whole
as_whole_limited n = whole_limited n

pub whole_again : (r : WholeResult) → as_whole (stored_of (as_whole r)) ≡ as_whole r
unfolding as_whole
whole_again (Ok n) = stored_again n
whole_again (Err f) = refl

pub truth_again : (r : TruthResult) → as_truth (truth_of (as_truth r)) ≡ as_truth r
truth_again (Ok b) = refl
truth_again (Err f) = refl

pub truth_as_truth : (r : TruthResult) → truth_of (as_truth r) ≡ r
truth_as_truth (Ok b) = refl
truth_as_truth (Err f) = refl

-- a literal of denominator 1
pub literal_again : (x : Fraction) → x.den ≡ 1 → nat_lt (unsigned_abs x.num) limit ≡ true → as_whole (Ok x.num) ≡ Ok (v.Num x)
unfolding as_whole
literal_again x one small = small_whole x.num small ∙ ap (λ (d : ℕ). Ok (v.Num (record { num = x.num; den = d }))) (sym one)

-- a whole number within the limits as a value
pub as_whole_small : (n : ℤ) → nat_lt (unsigned_abs n) limit ≡ true → as_whole (Ok n) ≡ Ok (numbered n)
unfolding as_whole
as_whole_small n small = small_whole n small

pub as_whole-is : (n : ℤ) → as_whole (Ok n) ≡ as_number (limited n)
unfolding as_whole
as_whole-is n = whole_value-is n
