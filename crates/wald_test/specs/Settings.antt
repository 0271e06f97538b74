-- The settings of a test as fractions: when they are refused, and the test that they make.
use Rattle.std.specs.Prelude.{ℕ, ◌+◌, ◌-◌, ◌*◌, ◌/◌, ◌^◌, nat_lt, nat_le, min, pos, int_lt, int_le, unsigned_abs, Bool, ◌||◌, if◌then◌else◌, Option, Some, None, Result, Ok, Err}
use Rattle.smc_num.specs.Gcd.{gcd_of}
use Rattle.smc_num.specs.Fraction.{Fraction}
use Rattle.sampling_plan.specs.declared.fault.PlanFault.{PlanFault}
use Rattle.sampling_plan.specs.declared.fault.PlanFault.TheVariants.{ThetaOutside, DeltaNotPositive, ErrorOutside, ErrorsTooLarge, Denominator}
use Rattle.wald_test.specs.declared.terms.Terms.{Terms}
use Rattle.wald_test.specs.SequentialTest.{SequentialTest}

-- the size of a numerator
abbrev pub size : Fraction → ℕ
size a = unsigned_abs a.num

-- the probability is below 0 or above 1
abbrev pub theta_outside : Fraction → Bool
theta_outside theta = int_lt theta.num (pos 0) || int_lt (pos theta.den) theta.num

-- the indifference width is 0 or below
abbrev pub delta_not_positive : Fraction → Bool
delta_not_positive delta = int_le delta.num (pos 0)

-- an error probability is not strictly between 0 and 1
abbrev pub error_outside : Fraction → Bool
error_outside a = int_le a.num (pos 0) || int_le (pos a.den) a.num

-- one of the two error probabilities is not strictly between 0 and 1
abbrev pub an_error_outside : Fraction → Fraction → Bool
an_error_outside alpha beta = error_outside alpha || error_outside beta

-- two error probabilities add up to 1 or more
abbrev pub errors_too_large : Fraction → Fraction → Bool
errors_too_large alpha beta = nat_le (alpha.den * beta.den) (size alpha * beta.den + size beta * alpha.den)

-- a denominator is above 2^31
abbrev pub denominator_large : Fraction → Bool
denominator_large a = nat_lt (2 ^ 31) a.den

-- one of the four denominators is above 2^31
abbrev pub a_denominator_large : Fraction → Fraction → Fraction → Fraction → Bool
a_denominator_large theta delta alpha beta =
    denominator_large theta || (denominator_large delta || (denominator_large alpha || denominator_large beta))

-- the first fault of the settings, if they have one
unfoldable pub fault_of : Fraction → Fraction → Fraction → Fraction → Option PlanFault
fault_of theta delta alpha beta =
    if theta_outside theta then Some ThetaOutside
    else (if delta_not_positive delta then Some DeltaNotPositive
    else (if an_error_outside alpha beta then Some ErrorOutside
    else (if errors_too_large alpha beta then Some ErrorsTooLarge
    else (if a_denominator_large theta delta alpha beta then Some Denominator else None))))

-- two fractions a/n and b/n over their least common denominator: all three numbers are divided by what they share
unfoldable pub least_terms : ℕ → ℕ → ℕ → Terms
least_terms a b n =
    let shared = gcd_of (gcd_of a b) n in
    record { first = a / shared; second = b / shared; parts = n / shared }

-- min(1, theta + delta) and max(0, theta - delta) over their least common denominator
unfoldable pub probabilities_of : Fraction → Fraction → Terms
probabilities_of theta delta =
    let parts = theta.den * delta.den in
    let middle = size theta * delta.den in
    let width = size delta * theta.den in
    least_terms (min (middle + width) parts) (middle - width) parts

-- alpha and beta over their least common denominator
unfoldable pub errors_of : Fraction → Fraction → Terms
errors_of alpha beta = least_terms (size alpha * beta.den) (size beta * alpha.den) (alpha.den * beta.den)

-- the numbers of the test
abbrev pub joined : Terms → Terms → SequentialTest
joined p e =
    record { upper = p.first; lower = p.second; parts = p.parts; alpha = e.first; beta = e.second; error_parts = e.parts }

-- a value where there is no fault
abbrev pub unless : {A E : Type 0} → Option E → A → Result A E
unless None a = Ok a
unless (Some fault) a = Err fault

-- the test of these settings, or their first fault
unfoldable pub test_of : Fraction → Fraction → Fraction → Fraction → Result SequentialTest PlanFault
test_of theta delta alpha beta =
    unless (fault_of theta delta alpha beta) (joined (probabilities_of theta delta) (errors_of alpha beta))
