-- Bits of bytes, and the verdicts on the pairs of eight lanes.
use Rattle.std.proofs.Common.{◌≡◌, ℕ, zero, suc, ◌<◌, ◌/◌, ◌%◌, ◌^◌, ◌*◌, Bool, true, false, not, cond, refl, ap, ◌∙◌, arith, sym, bit_and, bit_or, inl, inr}
use Rattle.std.specs.Prelude.{◌&&◌, ◌||◌, ◌==◌, bit_xor}
use Rattle.std.proofs.lemmas.Nat.{and_shr, or_shr, xor_shr, and_mod, or_mod, xor_mod, mod_below}
use Rattle.std.proofs.lemmas.Bool.Decides.{eqb_tells}
use native.Mathlib.Nat.{zero-div}
use Rattle.chain_model.specs.declared.job.PathKind.TheVariants.{Next, Until, Finally, Globally}
use Rattle.path_monitor.specs.declared.step.Step.{Step}
use Rattle.path_monitor.specs.declared.step.Step.TheVariants.{True, False, More}
use Rattle.path_monitor.specs.Verdicts.{verdict_of}
use Rattle.path_monitor.specs.Lanes.{HasBit, says_true, says_false, says_more}

-- a truth value as a bit
abbrev number : Bool → ℕ
number t = cond {A = ℕ} t 1 0

-- bits of joined bytes
pub and_bit : (l a b : ℕ) (s t : Bool) → HasBit l a s → HasBit l b t → HasBit l (bit_and a b) (s && t)
and_bit l a b s t p q =
    ap (λ (n : ℕ). n % 2) (and_shr a b l) ∙ (and_mod (a / 2 ^ l) (b / 2 ^ l) 1 ∙ ((λ i. bit_and (p i) (q i)) ∙ go s t))
  where
    go : (s t : Bool) → bit_and (number s) (number t) ≡ number (s && t)
    go true true = refl
    go true false = refl
    go false true = refl
    go false false = refl

pub or_bit : (l a b : ℕ) (s t : Bool) → HasBit l a s → HasBit l b t → HasBit l (bit_or a b) (s || t)
or_bit l a b s t p q =
    ap (λ (n : ℕ). n % 2) (or_shr a b l) ∙ (or_mod (a / 2 ^ l) (b / 2 ^ l) 1 ∙ ((λ i. bit_or (p i) (q i)) ∙ go s t))
  where
    go : (s t : Bool) → bit_or (number s) (number t) ≡ number (s || t)
    go true true = refl
    go true false = refl
    go false true = refl
    go false false = refl

-- what holds of each number below 8
below_8 : (P : ℕ → Type 0) → P 0 → P 1 → P 2 → P 3 → P 4 → P 5 → P 6 → P 7 → (n : ℕ) → n < 8 → P n
below_8 P a b c d e f g h zero low = a
below_8 P a b c d e f g h (suc zero) low = b
below_8 P a b c d e f g h (suc (suc zero)) low = c
below_8 P a b c d e f g h (suc (suc (suc zero))) low = d
below_8 P a b c d e f g h (suc (suc (suc (suc zero)))) low = e
below_8 P a b c d e f g h (suc (suc (suc (suc (suc zero))))) low = f
below_8 P a b c d e f g h (suc (suc (suc (suc (suc (suc zero)))))) low = g
below_8 P a b c d e f g h (suc (suc (suc (suc (suc (suc (suc zero))))))) low = h
below_8 P a b c d e f g h (suc (suc (suc (suc (suc (suc (suc (suc n)))))))) low = absurd (omega (arith, low))

-- each bit of 255 is set, and no bit of 0
pub all_bits : (l : ℕ) → l < 8 → HasBit l 255 true
all_bits = below_8 (λ l. HasBit l 255 true) refl refl refl refl refl refl refl refl

pub no_bits : (l : ℕ) → HasBit l 0 false
no_bits l = ap (λ (n : ℕ). n % 2) (zero-div (2 ^ l))

-- bits turned round
pub not_bit : (l a : ℕ) (s : Bool) → l < 8 → HasBit l a s → HasBit l (bit_xor a 255) (not s)
not_bit l a s low p =
    ap (λ (n : ℕ). n % 2) (xor_shr a 255 l) ∙ (xor_mod (a / 2 ^ l) (255 / 2 ^ l) 1 ∙ ((λ i. bit_xor (p i) (all_bits l low i)) ∙ go s))
  where
    go : (s : Bool) → bit_xor (number s) 1 ≡ number (not s)
    go true = refl
    go false = refl

-- a bit of this truth value is one of an equal one
as_bit : (l byte : ℕ) (a b : Bool) → HasBit l byte a → a ≡ b → HasBit l byte b
as_bit l byte a b bit same = bit ∙ ap number same

-- the byte of one lane has its bit alone
abbrev IsLane : ℕ → ℕ → Type 0
IsLane lane l = HasBit l (1 * 2 ^ lane % 256) (l == lane)

lane_bit : (lane : ℕ) → lane < 8 → (l : ℕ) → l < 8 → IsLane lane l
lane_bit = below_8 (λ lane. (l : ℕ) → l < 8 → IsLane lane l)
    (below_8 (IsLane 0) refl refl refl refl refl refl refl refl)
    (below_8 (IsLane 1) refl refl refl refl refl refl refl refl)
    (below_8 (IsLane 2) refl refl refl refl refl refl refl refl)
    (below_8 (IsLane 3) refl refl refl refl refl refl refl refl)
    (below_8 (IsLane 4) refl refl refl refl refl refl refl refl)
    (below_8 (IsLane 5) refl refl refl refl refl refl refl refl)
    (below_8 (IsLane 6) refl refl refl refl refl refl refl refl)
    (below_8 (IsLane 7) refl refl refl refl refl refl refl refl)

-- a number is another one, or not
pub is_same : (n k : ℕ) → n ≡ k → (n == k) ≡ true
is_same n k same = elim (eqb_tells n k) [
  | inl (hit, e) ↦ hit
  | inr (miss, other) ↦ absurd (other same)
]

pub is_other : (n k : ℕ) → ¬ (n ≡ k) → (n == k) ≡ false
is_other n k other = elim (eqb_tells n k) [
  | inl (hit, e) ↦ absurd (other e)
  | inr (miss, e) ↦ miss
]

-- a lane that is taken off, and the others
pub taken_off : (lane byte : ℕ) (t : Bool) → lane < 8 → HasBit lane byte t → HasBit lane (bit_and byte (bit_xor (1 * 2 ^ lane % 256) 255)) false
taken_off lane byte t low bit =
    as_bit lane (bit_and byte (bit_xor (1 * 2 ^ lane % 256) 255)) (t && not (lane == lane)) false
    (and_bit lane byte (bit_xor (1 * 2 ^ lane % 256) 255) t (not (lane == lane)) bit (not_bit lane (1 * 2 ^ lane % 256) (lane == lane) low (lane_bit lane low lane low)))
    (rw (is_same lane lane refl) (go t))
  where
    go : (t : Bool) → t && false ≡ false
    go true = refl
    go false = refl

pub left_on : (lane l byte : ℕ) (t : Bool) → lane < 8 → l < 8 → ¬ (l ≡ lane) → HasBit l byte t → HasBit l (bit_and byte (bit_xor (1 * 2 ^ lane % 256) 255)) t
left_on lane l byte t low low_l other bit =
    as_bit l (bit_and byte (bit_xor (1 * 2 ^ lane % 256) 255)) (t && not (l == lane)) t
    (and_bit l byte (bit_xor (1 * 2 ^ lane % 256) 255) t (not (l == lane)) bit (not_bit l (1 * 2 ^ lane % 256) (l == lane) low_l (lane_bit lane low l low_l)))
    (rw (is_other l lane other) (go t))
  where
    go : (t : Bool) → t && true ≡ t
    go true = refl
    go false = refl

-- every bit has a truth value
pub some_bit : (l byte : ℕ) → HasBit l byte (byte / 2 ^ l % 2 == 1)
some_bit l byte = go (byte / 2 ^ l % 2) (mod_below (byte / 2 ^ l) 2 (omega arith))
  where
    go : (n : ℕ) → n < 2 → n ≡ number (n == 1)
    go zero low = refl
    go (suc zero) low = refl
    go (suc (suc n)) low = absurd (omega (arith, low))

-- a lane is left where neither is said of it
more_bit : (s : Step) (t : Bool) → t && not (says_true s || says_false s) ≡ t && says_more s
more_bit True t = refl
more_bit False t = refl
more_bit More t = refl

pub left_bit : (l holds fails left : ℕ) (s : Step) (t : Bool) → l < 8 → HasBit l holds (says_true s) → HasBit l fails (says_false s) → HasBit l left t
    → HasBit l (bit_and left (bit_xor (bit_or holds fails) 255)) (t && says_more s)
left_bit l holds fails left s t low p q r =
    as_bit l (bit_and left (bit_xor (bit_or holds fails) 255)) (t && not (says_true s || says_false s)) (t && says_more s)
    (and_bit l left (bit_xor (bit_or holds fails) 255) t (not (says_true s || says_false s)) r
    (not_bit l (bit_or holds fails) (says_true s || says_false s) low (or_bit l holds fails (says_true s) (says_false s) p q)))
    (more_bit s t)

-- bytes in which bit l is what a step says
abbrev pub AreSaid : ℕ → ℕ → ℕ → Step → Type 0
AreSaid l holds fails step = HasBit l holds (says_true step) × HasBit l fails (says_false step)

-- a step that is the second formula's truth, with nothing left open
pub by_second : (l second : ℕ) (q : Bool) (step : Step) → l < 8 → says_true step ≡ q → says_false step ≡ not q → HasBit l second q
    → AreSaid l second (bit_xor second 255) step
by_second l second q step low yes_is no_is bit = (
  as_bit l second q (says_true step) bit (sym yes_is),
  as_bit l (bit_xor second 255) (not q) (says_false step) (not_bit l second q low bit) (sym no_is),
)

-- the last pair of each kind, whose verdict is that of the second formula
next_last : (n : ℕ) (p q : Bool) → (n == 0) ≡ false → (says_true (verdict_of Next n p q) ≡ q) × (says_false (verdict_of Next n p q) ≡ not q)
next_last n p true is = rw is (refl, refl)
next_last n p false is = rw is (refl, refl)

finally_last : (k n : ℕ) (p q : Bool) → (n == k) ≡ true → (says_true (verdict_of (Finally k) n p q) ≡ q) × (says_false (verdict_of (Finally k) n p q) ≡ not q)
finally_last k n p true is = (refl, refl)
finally_last k n p false is = rw is (refl, refl)

globally_last : (k n : ℕ) (p q : Bool) → (n == k) ≡ true → (says_true (verdict_of (Globally k) n p q) ≡ q) × (says_false (verdict_of (Globally k) n p q) ≡ not q)
globally_last k n p true is = rw is (refl, refl)
globally_last k n p false is = (refl, refl)

until_last : (k n : ℕ) (p q : Bool) → (n == k) ≡ true → (says_true (verdict_of (Until k) n p q) ≡ q) × (says_false (verdict_of (Until k) n p q) ≡ not q)
until_last k n p true is = (refl, refl)
until_last k n p false is = rw is (refl, refl)

pub next_at_last : (l n first second : ℕ) (p q : Bool) → l < 8 → (n == 0) ≡ false → HasBit l second q → AreSaid l second (bit_xor second 255) (verdict_of Next n p q)
next_at_last l n first second p q low is bit = let (a, b) = next_last n p q is in by_second l second q (verdict_of Next n p q) low a b bit

pub finally_at_last : (l k n first second : ℕ) (p q : Bool) → l < 8 → (n == k) ≡ true → HasBit l second q → AreSaid l second (bit_xor second 255) (verdict_of (Finally k) n p q)
finally_at_last l k n first second p q low is bit = let (a, b) = finally_last k n p q is in by_second l second q (verdict_of (Finally k) n p q) low a b bit

pub globally_at_last : (l k n first second : ℕ) (p q : Bool) → l < 8 → (n == k) ≡ true → HasBit l second q → AreSaid l second (bit_xor second 255) (verdict_of (Globally k) n p q)
globally_at_last l k n first second p q low is bit = let (a, b) = globally_last k n p q is in by_second l second q (verdict_of (Globally k) n p q) low a b bit

pub until_at_last : (l k n first second : ℕ) (p q : Bool) → l < 8 → (n == k) ≡ true → HasBit l second q → AreSaid l second (bit_xor second 255) (verdict_of (Until k) n p q)
until_at_last l k n first second p q low is bit = let (a, b) = until_last k n p q is in by_second l second q (verdict_of (Until k) n p q) low a b bit

-- the pairs before the last one
pub next_before : (l n : ℕ) (p q : Bool) → (n == 0) ≡ true → AreSaid l 0 0 (verdict_of Next n p q)
next_before l n p q is = rw is (no_bits l, no_bits l)

pub finally_before : (l k n second : ℕ) (p q : Bool) → (n == k) ≡ false → HasBit l second q → AreSaid l second 0 (verdict_of (Finally k) n p q)
finally_before l k n second p true is bit = (bit, no_bits l)
finally_before l k n second p false is bit = rw is (bit, no_bits l)

pub globally_before : (l k n second : ℕ) (p q : Bool) → l < 8 → (n == k) ≡ false → HasBit l second q → AreSaid l 0 (bit_xor second 255) (verdict_of (Globally k) n p q)
globally_before l k n second p true low is bit = rw is (no_bits l, not_bit l second true low bit)
globally_before l k n second p false low is bit = (no_bits l, not_bit l second false low bit)

pub until_before : (l k n first second : ℕ) (p q : Bool) → l < 8 → (n == k) ≡ false → HasBit l first p → HasBit l second q
    → AreSaid l second (bit_xor (bit_or second first) 255) (verdict_of (Until k) n p q)
until_before l k n first second p true low is one bit = (bit, not_bit l (bit_or second first) true low (or_bit l second first true p bit one))
until_before l k n first second true false low is one bit = rw is (bit, not_bit l (bit_or second first) true low (or_bit l second first false true bit one))
until_before l k n first second false false low is one bit = rw is (bit, not_bit l (bit_or second first) false low (or_bit l second first false false bit one))
