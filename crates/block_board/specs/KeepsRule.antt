-- The rule that the words and views of each race keep.
use Rattle.std.specs.Prelude.{◌≡◌, ◌≢◌, ℕ, ◌-◌, ◌^◌, ◌<◌, ◌≤◌, min, max, List, Contains}
use mathlib.Core.Option.{some}
use lib.ListN.{get_elem?}
use Rattle.block_board.specs.declared.view.View.{View}
use Rattle.block_board.specs.Counts.{times, pairs_of, least_of, once_below, total, lowest}
use Rattle.block_board.specs.Steps.{all_tickets, spent}
use Rattle.block_board.specs.Race.{next_of, stop_of, code_at, Sits}

-- the rule: who claimed which block, which code is where, and what the stop and the tickets are
pub record KeepsRule (n w : ℕ) (words : List ℕ) (views : List View) : Type 0 where
  -- each number below the lesser of the next one and n stands once in the claims of all views, and no other
  pub claims : (k : ℕ) → total (λ v. times k v.claims) views ≡ once_below k (min (next_of words) n)
  -- a block that a view published is among its claims, and was published there once
  pub claimed : (i : ℕ) (v : View) → Sits views i v → (b : ℕ) → pairs_of b v.published ≤ times b v.claims
  -- what a view published is the code of its block, with bit 63 set
  pub published : (i : ℕ) (v : View) → Sits views i v → (b code : ℕ) → Contains v.published (b, code)
      → (b < n) × (code_at words b ≡ code) × (2 ^ 63 ≤ code)
  -- a code that is there was published by some view
  pub codes : (b : ℕ) → b < n → code_at words b ≢ 0
      → (i : ℕ) × (v : View) × Sits views i v × Contains v.published (b, code_at words b)
  -- what a view saw is the code of its block, and not 0
  pub seen : (i : ℕ) (v : View) → Sits views i v → (b code : ℕ) → Contains v.seen (b, code)
      → (b < n) × (code_at words b ≡ code) × (code ≢ 0)
  -- the stop is the least of 2^64 - 1 and all lowered numbers
  pub stop : stop_of words ≡ lowest (λ v. least_of v.lowered) views
  -- and is at most the least stop that a view read
  pub least : (i : ℕ) (v : View) → Sits views i v → stop_of words ≤ v.least
  -- as many tickets were used as numbers past the blocks were claimed
  pub used : total (λ v. v.used) views ≡ max (next_of words) n - n
  -- there is a ticket for each worker
  pub tickets : total all_tickets views ≡ w
  -- a view without a ticket, left or used, is that of a seat that was joined into another
  pub idle : (i : ℕ) (v : View) → get_elem? views i ≡ some v → all_tickets v ≡ 0 → v ≡ spent
  -- so a seat that has all tickets is the only one left
  pub alone : (i j : ℕ) (v u : View) → Sits views i v → Sits views j u → all_tickets v ≡ w → i ≡ j
