-- The bits of a code.
use Rattle.std.proofs.Common.{◌≡◌, ◌==◌, ℕ, zero, suc, ◌/◌, ◌%◌, ◌^◌, ◌<◌, Bool, true, false, not, Some, refl, ap, sym, ◌∙◌, arith, length, slice_get, map, option_map}
use Rattle.std.proofs.lemmas.List.{length-map}
use Rattle.std.proofs.lemmas.Option.{slice_get-map}
use Rattle.std.proofs.Math.Nat.{div-one, div-div-eq-div-mul, pow-succ'}
use mathlib.Core.Bool.{beq}
use Rattle.stop_rules.specs.Seen.{is_success}
use Rattle.stop_rules.specs.Codes.{bits_of}

-- the bit at a position
pub bit_at : (count n k : ℕ) → k < count → slice_get (bits_of count n) k ≡ Some ((n / 2 ^ k % 2) == 1)
bit_at zero n k h = absurd (omega arith)
bit_at (suc count) n zero h = ap (λ (v : ℕ). Some ((v % 2) == 1)) (sym (div-one n))
bit_at (suc count) n (suc k) h = bit_at count (n / 2) k (omega arith) ∙ ap (λ (v : ℕ). Some ((v % 2) == 1)) (div-div-eq-div-mul n 2 (2 ^ k) ∙ ap (λ (v : ℕ). n / v) (sym (pow-succ' 2 k)))

-- as many bits as are asked for
pub length-bits_of : (count n : ℕ) → length (bits_of count n) ≡ count
length-bits_of zero n = refl
length-bits_of (suc count) n = ap suc (length-bits_of count (n / 2))

-- a trace succeeds where its raw truth value differs from the flip
pub is_success-beq : (raw flip : Bool) → is_success flip raw ≡ not (beq raw flip)
is_success-beq true true = refl
is_success-beq true false = refl
is_success-beq false true = refl
is_success-beq false false = refl

-- whether the trace at a position succeeds
pub success_at_position : (count code position : ℕ) (flip : Bool) → position < count → slice_get (map (is_success flip) (bits_of count code)) position ≡ Some (not (beq ((code / 2 ^ position % 2) == 1) flip))
success_at_position count code position flip h =
    slice_get-map (is_success flip) (bits_of count code) position ∙ (ap (option_map (is_success flip)) (bit_at count code position h)
    ∙ ap (λ v. Some v) (is_success-beq ((code / 2 ^ position % 2) == 1) flip))

-- as many truth values as bits
pub length-truths : (flip : Bool) (count n : ℕ) → length (map (is_success flip) (bits_of count n)) ≡ count
length-truths flip count n = length-map (bits_of count n) (is_success flip) ∙ length-bits_of count n
