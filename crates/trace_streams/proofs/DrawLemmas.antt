-- The range of words and draws.
use Rattle.std.proofs.Common.{ℕ, ◌+◌, ◌*◌, ◌^◌, ◌<◌, arith}
use Rattle.rand_chacha.specs.Block.{block_word}
use Rattle.trace_streams.specs.Draws.{word_of, draw_at}

-- a word of a stream has 32 bits
pub word_of-below : (seed trace k : ℕ) → word_of seed trace k < 2 ^ 32
unfolding word_of block_word
word_of-below seed trace k = omega arith

-- a draw has 64 bits
pub draw_at-below : (seed trace j : ℕ) → draw_at seed trace j < 2 ^ 64
unfolding draw_at
draw_at-below seed trace j =
    omega (arith, word_of-below seed trace (2 * j), word_of-below seed trace (2 * j + 1))
