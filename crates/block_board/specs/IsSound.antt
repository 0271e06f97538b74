-- What the rule of a race says of one seat's view alone.
use Rattle.std.specs.Prelude.{◌≡◌, ℕ, ◌^◌, ◌<◌, ◌≤◌, ◌++◌, length, All, Contains}
use Rattle.block_board.specs.declared.view.View.{View}
use Rattle.block_board.specs.Counts.{times, pairs_of, least_of}
use Rattle.block_board.specs.Steps.{all_tickets}

-- the view has each of its parts, as far as it can tell, from a race
pub record IsSound (v : View) : Type 0 where
  -- the claims are blocks of the board
  pub blocks : All (λ k. k < v.blocks) v.claims
  -- none of them twice
  pub once : (k : ℕ) → times k v.claims ≤ 1
  -- so there are at most as many as blocks
  pub few : length v.claims ≤ v.blocks
  -- a published block is among the claims, and was published once
  pub claimed : (b : ℕ) → pairs_of b v.published ≤ times b v.claims
  -- the codes that were published have bit 63 set
  pub marked : All (λ p. 2 ^ 63 ≤ p.1) v.published
  -- what was seen are codes of blocks, with bit 63 set
  pub seen : All (λ p. (p.0 < v.blocks) × (2 ^ 63 ≤ p.1)) v.seen
  -- the pairs of one block, seen or published, have one code
  pub one_code : (b c d : ℕ) → Contains (v.seen ++ v.published) (b, c) → Contains (v.seen ++ v.published) (b, d) → c ≡ d
  -- some ticket is left or used, and no more than there are workers
  pub some_ticket : 1 ≤ all_tickets v
  pub most_tickets : all_tickets v ≤ v.workers
  -- a seat that has them all and used one has claimed each block
  pub all_claimed : all_tickets v ≡ v.workers → 0 < v.used → (k : ℕ) → k < v.blocks → times k v.claims ≡ 1
  -- a seat that has them all has lowered the stop at least as far as it read it
  pub lowest : all_tickets v ≡ v.workers → least_of v.lowered ≤ v.least
