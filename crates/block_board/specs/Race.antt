-- A race: any number of seats make steps in any order.
-- Word 0 is the next number, word 1 the stop, and word 2 + b the code of block b.
use Rattle.std.specs.Prelude.{◌≡◌, ◌≢◌, ℕ, ◌+◌, ◌^◌, ◌<◌, ◌≤◌, min, List, [], ◌∷◌, ◌++◌, replicate, slice_index, slice_set}
use mathlib.Core.Option.{some}
use lib.ListN.{get_elem?}
use Rattle.block_board.specs.declared.view.View.{View}
use Rattle.block_board.specs.Counts.{times, pairs_of, no_stop}
use Rattle.block_board.specs.Steps.{opened, all_tickets, after_claim, after_publish, after_look, after_lower, after_stop, after_next, cut, given, merged, spent}

-- a board has 1 to 1,024 blocks and 1 to 64 workers
pub record HasRoom (n w : ℕ) : Type 0 where
  pub some_block : 1 ≤ n
  pub most_blocks : n ≤ 1024
  pub some_worker : 1 ≤ w
  pub most_workers : w ≤ 64

-- the next number to claim
abbrev pub next_of : List ℕ → ℕ
next_of words = slice_index words 0

-- the stop
abbrev pub stop_of : List ℕ → ℕ
stop_of words = slice_index words 1

-- the code of block b, and 0 as long as it has none
abbrev pub code_at : List ℕ → ℕ → ℕ
code_at words b = slice_index words (2 + b)

-- seat i has the view v, and is not spent
abbrev pub Sits : List View → ℕ → View → Type 0
Sits views i v = (get_elem? views i ≡ some v) × (0 < all_tickets v)

-- the words and the views of a board of n blocks and w workers after some steps
pub data Race (n w : ℕ) : List ℕ → List View → Type 0 where
  -- nothing is claimed, no code is there, the stop is 2^64 - 1, and the first seat has all tickets
  opens : HasRoom n w → Race n w (0 ∷ no_stop ∷ replicate n 0) (opened n w ∷ [])
  -- a seat with a ticket takes the next number, and raises it by one
  claims : (words : List ℕ) (views : List View) (i : ℕ) (v : View) → Race n w words views → Sits views i v
      → 0 < v.tickets
      → Race n w (slice_set words 0 (next_of words + 1)) (slice_set views i (after_claim v (next_of words)))
  -- a seat writes the code, with bit 63 set, of a block that it claimed and did not publish before
  publishes : (words : List ℕ) (views : List View) (i : ℕ) (v : View) (b code : ℕ) → Race n w words views
      → Sits views i v → 0 < times b v.claims → pairs_of b v.published ≡ 0 → 2 ^ 63 ≤ code
      → Race n w (slice_set words (2 + b) code) (slice_set views i (after_publish v b code))
  -- a seat reads the code of a block
  looks : (words : List ℕ) (views : List View) (i : ℕ) (v : View) (b : ℕ) → Race n w words views → Sits views i v
      → b < n
      → Race n w words (slice_set views i (after_look v b (code_at words b)))
  -- a seat makes the stop the lesser of itself and a number
  lowers : (words : List ℕ) (views : List View) (i : ℕ) (v : View) (number : ℕ) → Race n w words views
      → Sits views i v
      → Race n w (slice_set words 1 (min (stop_of words) number)) (slice_set views i (after_lower v number (stop_of words)))
  -- a seat reads the stop
  stops : (words : List ℕ) (views : List View) (i : ℕ) (v : View) → Race n w words views → Sits views i v
      → Race n w words (slice_set views i (after_stop v (stop_of words)))
  -- a seat reads the next number, the second half of a split or a join
  reads_next : (words : List ℕ) (views : List View) (i : ℕ) (v : View) → Race n w words views → Sits views i v
      → Race n w words (slice_set views i (after_next v (next_of words)))
  -- a seat hands over some of its tickets, but not all, to a new seat
  splits : (words : List ℕ) (views : List View) (i : ℕ) (v : View) (t : ℕ) → Race n w words views → Sits views i v
      → 1 ≤ t → t < v.tickets
      → Race n w words (slice_set views i (cut v t) ++ given v t ∷ [])
  -- a seat takes in another one, which is spent
  joins : (words : List ℕ) (views : List View) (i j : ℕ) (v u : View) → Race n w words views → Sits views i v
      → Sits views j u → j ≢ i
      → Race n w words (slice_set (slice_set views i (merged v u)) j spent)
