-- The draws of a trace: each seed gives a key, each trace has a stream of its own under that key, and two words of the
-- stream make a draw. The cipher is ChaCha with 8 rounds (D. J. Bernstein, "ChaCha, a variant of Salsa20", 2008).
use Rattle.std.specs.Prelude.{ℕ, ◌+◌, ◌*◌, ◌^◌, List, ◌++◌, replicate}
use Rattle.std.specs.Int.{w64, to_le_bytes}
use Rattle.rand_chacha.specs.ChaCha.{word_at, key_of}

-- the 32 bytes of a seed's key: the 8 bytes of the seed, low byte first, and 24 zero bytes
abbrev pub key_bytes : ℕ → List ℕ
key_bytes seed = to_le_bytes w64 seed ++ replicate 24 0

-- word k of a trace's stream: the stream that has the trace's number, under the seed's key, after 4 double rounds
unfoldable pub word_of : ℕ → ℕ → ℕ → ℕ
word_of seed trace k = word_at 4 (key_of (key_bytes seed)) trace k

-- draw j of a trace, a number of 64 bits: its low half is word 2j of the trace's stream, its high half word 2j + 1
unfoldable pub draw_at : ℕ → ℕ → ℕ → ℕ
draw_at seed trace j =
    let lo = word_of seed trace (2 * j) in
    let hi = word_of seed trace (2 * j + 1) in
    lo + 2 ^ 32 * hi

-- where the drawing of a trace stands: the seed, the number of the trace, and how many draws were taken
pub record Place : Type 0 where
  pub seed : ℕ
  pub trace : ℕ
  pub place : ℕ
