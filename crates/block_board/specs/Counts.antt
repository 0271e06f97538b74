-- How often things stand in lists of numbers and of pairs, and sums over lists.
use Rattle.std.specs.Prelude.{ℕ, ◌+◌, ◌==◌, nat_lt, min, if◌then◌else◌, List, [], ◌∷◌}

-- how often a number stands in a list
abbrev pub times : ℕ → List ℕ → ℕ
times x [] = 0
times x (y ∷ ys) = (if y == x then 1 else 0) + times x ys

-- how many of the pairs are of block b
abbrev pub pairs_of : ℕ → List (ℕ × ℕ) → ℕ
pairs_of b [] = 0
pairs_of b (p ∷ ps) = (if p.0 == b then 1 else 0) + pairs_of b ps

-- the code of block b in the first pair of that block, and 0 where there is none
abbrev pub code_of : ℕ → List (ℕ × ℕ) → ℕ
code_of b [] = 0
code_of b (p ∷ ps) = if p.0 == b then p.1 else code_of b ps

-- the stop of a board before any number was lowered, 2^64 - 1
abbrev pub no_stop : ℕ
no_stop = 18446744073709551615

-- the least of the numbers and 2^64 - 1
abbrev pub least_of : List ℕ → ℕ
least_of [] = no_stop
least_of (x ∷ xs) = min x (least_of xs)

-- 1 for a number below n, and 0 for each other
abbrev pub once_below : ℕ → ℕ → ℕ
once_below x n = if nat_lt x n then 1 else 0

module _ {A : Type 0} where
  -- a number of each element, added up over the list
  abbrev pub total : (A → ℕ) → List A → ℕ
  total f [] = 0
  total f (v ∷ vs) = f v + total f vs

  -- the least of a number of each element and 2^64 - 1
  abbrev pub lowest : (A → ℕ) → List A → ℕ
  lowest f [] = no_stop
  lowest f (v ∷ vs) = min (f v) (lowest f vs)
