-- Codes of blocks: what is seen of up to 32 traces, in one number of 64 bits.
use Rattle.std.specs.Prelude.{◌≡◌, ◌==◌, ℕ, zero, suc, ◌+◌, ◌*◌, ◌/◌, ◌%◌, ◌^◌, ◌<◌, ◌≤◌, ◌⊎◌, Bool, true, false, List, [], ◌∷◌, ◌++◌, Option, Some, None, if◌then◌else◌, length, map, nat_lt}
use Rattle.chain_model.specs.declared.outcome.Outcome.{Outcome}
use Rattle.stop_rules.specs.Seen.{is_success, SeenAt, AreSeen}

-- the number with these bits, the lowest first
abbrev pub number_of : List Bool → ℕ
number_of [] = 0
number_of (true ∷ bits) = 1 + 2 * number_of bits
number_of (false ∷ bits) = 2 * number_of bits

-- the code of a block: bit j is the raw truth value of its j-th trace, bits 32 to 37 say how many come before the
-- first fault, and bit 63 is set
abbrev pub code_of : List Bool → ℕ
code_of truths = 2 ^ 63 + (2 ^ 32 * length truths + number_of truths)

-- how many traces of a block come before its first fault
abbrev pub given_in : ℕ → ℕ
given_in code = (code / 2 ^ 32) % 64

-- so many bits of a number, the lowest first
abbrev pub bits_of : ℕ → ℕ → List Bool
bits_of zero n = []
bits_of (suc count) n = ((n % 2) == 1) ∷ bits_of count (n / 2)

-- whether each of the traces before the first fault succeeds
abbrev pub truths_in : Bool → ℕ → List Bool
truths_in flip code = map (is_success flip) (bits_of (given_in code) code)

-- what is seen of a block of so many traces: those before the first fault, and the fault, if there is one
abbrev pub seen_in : Bool → ℕ → ℕ → List (Option Bool)
seen_in flip code count =
    map (λ truth. Some truth) (truths_in flip code) ++ (if nat_lt (given_in code) count then None ∷ [] else [])

-- a code of a block of so many traces: it is marked, and tells of no more traces than the block has
pub record IsCode (code count : ℕ) : Type 0 where
  pub some : 1 ≤ count
  pub few : count ≤ 32
  pub marked : 2 ^ 63 ≤ code
  pub given : given_in code ≤ count

-- where the raw truth values of a block of so many traces stop: at the end of the block, or at the first fault
abbrev pub StopsAt : (ℕ → Outcome → Type 0) → ℕ → ℕ → ℕ → Type 0
StopsAt outcome_at first count given = (given ≡ count) ⊎ ((given < count) × SeenAt outcome_at false (first + given) None)

-- the code of a block of so many traces from the first one on
pub record IsBlockCode (outcome_at : ℕ → Outcome → Type 0) (first count code : ℕ) : Type 0 where
  pub truths : List Bool
  pub seen : AreSeen outcome_at false first (map (λ truth. Some truth) truths)
  pub stops : StopsAt outcome_at first count (length truths)
  pub is : code ≡ code_of truths
