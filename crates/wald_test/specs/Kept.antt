-- What a test keeps and adds up: the ends of its factors' brackets, and how two sums of them compare.
use Rattle.std.specs.Prelude.{◌≡◌, ℕ, ◌+◌, ◌*◌, ◌-◌, ◌==◌, nat_lt, Bool, ◌&&◌, ◌||◌, if◌then◌else◌, Option, Some, None}
use Rattle.std.specs.declared.cmp.Ordering.{Ordering}
use Rattle.std.specs.declared.cmp.Ordering.TheVariants.{Less, Equal, Greater}
use Rattle.sampling_plan.specs.declared.class.Class.{Class}
use Rattle.sampling_plan.specs.declared.class.Class.TheVariants.{Accept, Reject, Close, Go}
use Rattle.wald_test.specs.declared.factor.Factor.{Factor}
use Rattle.wald_test.specs.declared.likelihood.Likelihood.{Likelihood}
use Rattle.wald_test.specs.declared.sums.Sums.{Sums}
use Rattle.wald_test.specs.declared.terms.Terms.{Terms}
use Rattle.wald_test.specs.SequentialTest.{IsTest}
use Rattle.wald_test.specs.Settings.{joined}
use Rattle.wald_test.specs.Sums.{low_end, high_end}

-- a number with the ends of its bracket
abbrev pub factor_of : ℕ → Factor
factor_of x = record { number = x; low = low_end x; high = high_end x }

-- a probability x/n and its complement
abbrev pub likelihood_at : ℕ → ℕ → Likelihood
likelihood_at x n = record { success = factor_of x; failure = factor_of (n - x) }

-- a factor makes a product 0: it is 0 and stands in it
abbrev pub is_zero : ℕ → ℕ → Bool
is_zero x k = x == 0 && nat_lt 0 k

-- the sums of a likelihood, if it is not 0
abbrev pub sums_at : Likelihood → ℕ → ℕ → Option Sums
sums_at l d f =
    if is_zero l.success.number d || is_zero l.failure.number f then None
    else Some (record { low = d * l.success.low + f * l.failure.low; high = d * l.success.high + f * l.failure.high })

-- the sums with one factor more
abbrev pub with_factor : Option Sums → Factor → Option Sums
with_factor None x = None
with_factor (Some s) x = Some (record { low = s.low + x.low; high = s.high + x.high })

-- how two numbers compare by their sums, if the sums tell; a number without sums is 0
abbrev pub compared : Option Sums → Option Sums → Option Ordering
compared None None = Some Equal
compared None (Some r) = Some Less
compared (Some l) None = Some Greater
compared (Some l) (Some r) =
    if nat_lt l.high r.low then Some Less
    else (if nat_lt r.high l.low then Some Greater
    else (if l.low == l.high && (r.low == r.high && l.low == r.low) then Some Equal else None))

-- what the two boundaries decide
abbrev pub decided : Option Ordering → Option Ordering → Class
decided None r = Close
decided (Some a) None = Close
decided (Some Less) (Some r) = Accept
decided (Some Equal) (Some r) = Accept
decided (Some Greater) (Some Less) = Go
decided (Some Greater) (Some Equal) = Reject
decided (Some Greater) (Some Greater) = Reject

-- a test keeps the brackets of its own numbers
pub record IsKept (p e : Terms) (upper lower : Likelihood) (alpha not_alpha beta not_beta : Factor) : Type 0 where
  pub test : IsTest (joined p e)
  pub upper_is : upper ≡ likelihood_at p.first p.parts
  pub lower_is : lower ≡ likelihood_at p.second p.parts
  pub alpha_is : alpha ≡ factor_of e.first
  pub not_alpha_is : not_alpha ≡ factor_of (e.parts - e.first)
  pub beta_is : beta ≡ factor_of e.second
  pub not_beta_is : not_beta ≡ factor_of (e.parts - e.second)
