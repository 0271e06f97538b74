-- A probability over a denominator below 2^62 is a fraction within the limits.
use Rattle.std.proofs.Common.{◌≡◌, ℕ, zero, suc, ◌/◌, ◌<◌, ◌≤◌, false, pos, refl, ◌∙◌, arith, Err}
use Rattle.std.proofs.Math.Nat.{div-le_self}
use Rattle.smc_num.specs.declared.fault.NumFault.{NumFault}
use Rattle.smc_num.specs.Gcd.{gcd_of}
use Rattle.smc_num.specs.Fraction.{limit, fraction_of}
use Rattle.smc_num.proofs.GcdLemmas.{gcd_of-IsGcd}
use Rattle.smc_num.proofs.LowestLemmas.{reduced_by, within-small}

pub probability_exists :
    (n d : ℕ) (fault : NumFault) → n ≤ d → 0 < d → d < limit → fraction_of (pos n) (pos d) ≡ Err fault → ⊥
unfolding fraction_of
probability_exists n zero fault most some small refused = absurd (omega arith)
probability_exists n (suc d) fault most some small refused =
    let shared : ℕ = gcd_of n (suc d) in
    let reduced = reduced_by false n (suc d) shared (n / shared) (suc d / shared) some (gcd_of-IsGcd n (suc d)) refl refl in
    let top : n / shared ≤ n = div-le_self n shared in
    let bottom : suc d / shared ≤ suc d = div-le_self (suc d) shared in
    let made = reduced.value ∙ within-small (pos (n / shared)) (suc d / shared) (omega arith) (omega arith) in
    cc
