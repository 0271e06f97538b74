-- Observers: what each makes of the outcomes that it sees, and its line.
use Rattle.std.specs.Prelude.{◌==◌, ℕ, ◌+◌, ◌-◌, ◌^◌, Bool, true, false, List, [], ◌∷◌, ◌++◌, if◌then◌else◌, length, min, max, codes, decimal, nat_lt, map}
use Rattle.stop_rules.specs.declared.observer.Stay.{Stay}
use Rattle.stop_rules.specs.declared.observer.Stay.TheVariants.{Keep, Leave}

-- what an observer has seen: the present and the longest run of true; or batches, with those seen and true in the
-- present one, how many were full, and the least and the most true in a full one; or the first bits, of which it
-- wants so many
pub data Observation : Type 0 where
  longest_run : (run best : ℕ) → Observation
  batches : (size seen trues full least most : ℕ) → Observation
  recorder : (most : ℕ) (bits : List Bool) → Observation

-- a bit as a number
abbrev pub bit_of : Bool → ℕ
bit_of true = 1
bit_of false = 0

-- the number of an observer's kind
abbrev pub kind_of : Observation → ℕ
kind_of (longest_run run best) = 0
kind_of (batches size seen trues full least most) = 1
kind_of (recorder most bits) = 2

-- an observer's state as a list of whole numbers, which with the kind tells what it has seen
abbrev pub state_of : Observation → List ℕ
state_of (longest_run run best) = run ∷ best ∷ []
state_of (batches size seen trues full least most) = size ∷ seen ∷ trues ∷ full ∷ least ∷ most ∷ []
state_of (recorder most bits) = most ∷ map bit_of bits

-- one more, up to the last number of 64 bits
abbrev pub one_more : ℕ → ℕ
one_more n = min (n + 1) (2 ^ 64 - 1)

-- one more where a bit is true
abbrev pub one_more_if : Bool → ℕ → ℕ
one_more_if true n = one_more n
one_more_if false n = n

-- batches after the last of these was seen: a full batch is counted and compared with the others, and the next one begins
abbrev pub batches_after : (size seen trues full least most : ℕ) → Observation
batches_after size seen trues full least most =
    if seen == size then batches size 0 0 (one_more full) (if full == 0 then trues else min least trues) (max most trues)
    else batches size seen trues full least most

-- what an observer has seen after one more bit
abbrev pub observe : Observation → Bool → Observation
observe (longest_run run best) true = longest_run (one_more run) (max best (one_more run))
observe (longest_run run best) false = longest_run 0 best
observe (batches size seen trues full least most) bit = batches_after size (one_more seen) (one_more_if bit trues) full least most
observe (recorder most bits) bit = recorder most (bits ++ bit ∷ [])

-- whether an observer may be fed: a recorder has room for one more bit
abbrev pub is_ready : Observation → Bool
is_ready (longest_run run best) = true
is_ready (batches size seen trues full least most) = true
is_ready (recorder most bits) = nat_lt (length bits) most

-- whether an observer stays: a recorder leaves with the last bit that it wants, the others never
abbrev pub stay_of : Observation → Stay
stay_of (longest_run run best) = Keep
stay_of (batches size seen trues full least most) = Keep
stay_of (recorder most bits) = if nat_lt (length bits) most then Keep else Leave

-- a bit as it is written: `1` or `0`
abbrev pub digit_of : Bool → ℕ
digit_of true = 49
digit_of false = 48

-- bits at the end of a line: after a blank, if there are any
abbrev pub digits_after_blank : List Bool → List ℕ
digits_after_blank [] = []
digits_after_blank (bit ∷ bits) = codes " " ++ map digit_of (bit ∷ bits)

-- the line of an observer
abbrev pub line_of : Observation → List ℕ
line_of (longest_run run best) = codes "longest run of true: " ++ decimal best
line_of (batches size seen trues full least most) =
    codes "batches of " ++ (decimal size ++ (codes ": " ++ (decimal full ++ (codes " full, least "
    ++ (decimal least ++ (codes ", most " ++ decimal most))))))
line_of (recorder most bits) = codes "first " ++ (decimal (length bits) ++ (codes ":" ++ digits_after_blank bits))
