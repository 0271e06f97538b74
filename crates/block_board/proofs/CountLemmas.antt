-- Counts and sums over a list of which one element changes.
use Rattle.std.proofs.Common.{◌≡◌, ◌≢◌, ℕ, zero, suc, ◌+◌, ◌<◌, ◌≤◌, min, Bool, true, false, cond, nat_eq, List, [], ◌∷◌, ◌++◌, set, sym, refl, ap, arith, zero-le}
use Rattle.std.proofs.lemmas.Bool.Decides.{nat_tests}
use mathlib.Core.Option.{some, some-injective, some-ne-none}
use lib.ListN.{get_elem?}
use borrow.Author.Tests.{eqb-true}
use Rattle.std.specs.Prelude.{Contains}
use Rattle.block_board.specs.Counts.{total, lowest, times, pairs_of, code_of, least_of, once_below}

-- the codes of block b, added up
abbrev pub code_sum : ℕ → List (ℕ × ℕ) → ℕ
code_sum b [] = 0
code_sum b (p ∷ ps) = cond (nat_eq p.0 b) p.1 0 + code_sum b ps

module _ {A : Type 0} (f : A → ℕ) where
  -- where an element is replaced, the sum changes by as much
  pub total-set : (l : List A) (i : ℕ) (v w : A) → get_elem? l i ≡ some v → total f (set l i w) + f v ≡ total f l + f w
  total-set [] i v w e = absurd (some-ne-none v (sym e))
  total-set (x ∷ xs) zero v w e = let is : f x ≡ f v = ap f (some-injective x v e) in omega arith
  total-set (x ∷ xs) (suc i) v w e = let r = total-set xs i v w e in omega arith

  -- a part is at most the sum
  pub part_le : (l : List A) (i : ℕ) (v : A) → get_elem? l i ≡ some v → f v ≤ total f l
  part_le [] i v e = absurd (some-ne-none v (sym e))
  part_le (x ∷ xs) zero v e = let is : f x ≡ f v = ap f (some-injective x v e) in omega arith
  part_le (x ∷ xs) (suc i) v e = let r = part_le xs i v e in omega arith

  -- two parts are at most the sum
  pub parts_le : (l : List A) (i j : ℕ) (v u : A) → get_elem? l i ≡ some v → get_elem? l j ≡ some u → i ≢ j → f v + f u ≤ total f l
  parts_le [] i j v u e d h = absurd (some-ne-none v (sym e))
  parts_le (x ∷ xs) zero zero v u e d h = absurd (h refl)
  parts_le (x ∷ xs) zero (suc j) v u e d h = let is : f x ≡ f v = ap f (some-injective x v e) in let r = part_le xs j u d in omega arith
  parts_le (x ∷ xs) (suc i) zero v u e d h = let is : f x ≡ f u = ap f (some-injective x u d) in let r = part_le xs i v e in omega arith
  parts_le (x ∷ xs) (suc i) (suc j) v u e d h = let r = parts_le xs i j v u e d (λ (s : i ≡ j). h (ap suc s)) in omega arith

  -- a new element adds its number
  pub total-push : (l : List A) (w : A) → total f (l ++ w ∷ []) ≡ total f l + f w
  total-push [] w = omega arith
  total-push (x ∷ xs) w = let r = total-push xs w in omega arith

  -- where a number is lowered to at most k, the least of all is
  pub lowest-set : (l : List A) (i : ℕ) (v w : A) (k : ℕ) → get_elem? l i ≡ some v → f w ≡ min (f v) k → lowest f (set l i w) ≡ min (lowest f l) k
  lowest-set [] i v w k e h = absurd (some-ne-none v (sym e))
  lowest-set (x ∷ xs) zero v w k e h = let is : f x ≡ f v = ap f (some-injective x v e) in omega arith
  lowest-set (x ∷ xs) (suc i) v w k e h = let r = lowest-set xs i v w k e h in omega arith

  -- the least of all is at most 2^64 - 1
  pub lowest_most : (l : List A) → lowest f l ≤ 18446744073709551615
  lowest_most [] = omega arith
  lowest_most (y ∷ ys) = let r = lowest_most ys in omega arith

  -- and at most each one
  pub lowest_le : (l : List A) (i : ℕ) (v : A) → get_elem? l i ≡ some v → lowest f l ≤ f v
  lowest_le [] i v e = absurd (some-ne-none v (sym e))
  lowest_le (x ∷ xs) zero v e = let is : f x ≡ f v = ap f (some-injective x v e) in omega arith
  lowest_le (x ∷ xs) (suc i) v e = let r = lowest_le xs i v e in omega arith

  -- a new element lowers the least of all to its number
  pub lowest-push : (l : List A) (w : A) → lowest f (l ++ w ∷ []) ≡ min (lowest f l) (min (f w) 18446744073709551615)
  lowest-push [] w = omega arith
  lowest-push (x ∷ xs) w = let r = lowest-push xs w in omega arith

  -- an element that is raised to the top no longer counts
  pub lowest-unset : (l : List A) (j : ℕ) (u s : A) → get_elem? l j ≡ some u → f s ≡ 18446744073709551615 → lowest f l ≡ min (lowest f (set l j s)) (f u)
  lowest-unset [] j u s at z = absurd (some-ne-none u (sym at))
  lowest-unset (x ∷ xs) zero u s at z = let is : f x ≡ f u = ap f (some-injective x u at) in let m = lowest_most xs in omega arith
  lowest-unset (x ∷ xs) (suc j) u s at z = let r = lowest-unset xs j u s at z in omega arith

  -- a sum that is not 0 has a part that is not 0
  pub some_part : (l : List A) → 0 < total f l → (i : ℕ) × (v : A) × (get_elem? l i ≡ some v) × (0 < f v)
  some_part [] h = absurd (omega arith)
  some_part (x ∷ xs) h = at (f x) refl (some_part xs)
    where
      at : (k : ℕ) → f x ≡ k → (0 < total f xs → (i : ℕ) × (v : A) × (get_elem? xs i ≡ some v) × (0 < f v))
          → (i : ℕ) × (v : A) × (get_elem? (x ∷ xs) i ≡ some v) × (0 < f v)
      at zero e more = let r = more (omega arith) in (suc r.0, r.1, r.2, r.3)
      at (suc k) e more = (0, x, refl, omega arith)

-- the count of two lists is the sum of their counts
pub times-append : (x : ℕ) (xs ys : List ℕ) → times x (xs ++ ys) ≡ times x xs + times x ys
times-append x [] ys = omega arith
times-append x (y ∷ xs) ys = let r = times-append x xs ys in omega arith

-- the same of pairs of a block
pub pairs_of-append : (b : ℕ) (xs ys : List (ℕ × ℕ)) → pairs_of b (xs ++ ys) ≡ pairs_of b xs + pairs_of b ys
pairs_of-append b [] ys = omega arith
pairs_of-append b (y ∷ xs) ys = let r = pairs_of-append b xs ys in omega arith

-- the same of their codes
pub code_sum-append : (b : ℕ) (xs ys : List (ℕ × ℕ)) → code_sum b (xs ++ ys) ≡ code_sum b xs + code_sum b ys
code_sum-append b [] ys = omega arith
code_sum-append b (y ∷ xs) ys = let r = code_sum-append b xs ys in omega arith

-- the least of a list is at most 2^64 - 1
pub least_of_most : (xs : List ℕ) → least_of xs ≤ 18446744073709551615
least_of_most [] = omega arith
least_of_most (x ∷ xs) = let r = least_of_most xs in omega arith

-- the least of two lists is the lesser of their least
pub least_of-append : (xs ys : List ℕ) → least_of (xs ++ ys) ≡ min (least_of xs) (least_of ys)
least_of-append [] ys = let m = least_of_most ys in omega arith
least_of-append (x ∷ xs) ys = let r = least_of-append xs ys in omega arith

module _ {A : Type 0} (f g : A → ℕ) where
  -- where nothing has any of g, nothing has any of f
  none_total : (l : List A) → ((i : ℕ) (u : A) → get_elem? l i ≡ some u → g u ≡ 0 → f u ≡ 0) → total g l ≡ 0 → total f l ≡ 0
  none_total [] h e = refl
  none_total (x ∷ xs) h e = let a = h zero x refl (omega arith) in let b = none_total xs (λ i. h (suc i)) (omega arith) in omega arith

  -- where one has all of g, it has all of f
  pub sole : (l : List A) (i : ℕ) (v : A) → get_elem? l i ≡ some v → ((j : ℕ) (u : A) → get_elem? l j ≡ some u → g u ≡ 0 → f u ≡ 0) → total g l ≡ g v → total f l ≡ f v
  sole [] i v at h e = absurd (some-ne-none v (sym at))
  sole (x ∷ xs) zero v at h e =
      let is : g x ≡ g v = ap g (some-injective x v at) in let fs : f x ≡ f v = ap f (some-injective x v at) in
      let b = none_total xs (λ i. h (suc i)) (omega arith) in omega arith
  sole (x ∷ xs) (suc i) v at h e =
      let le = part_le g xs i v at in let z = h zero x refl (omega arith) in
      let b = sole xs i v at (λ j. h (suc j)) (omega arith) in omega arith

  -- where nothing has any of g, no f is below 2^64 - 1
  none_lowest : (l : List A) → ((i : ℕ) (u : A) → get_elem? l i ≡ some u → g u ≡ 0 → f u ≡ 18446744073709551615) → total g l ≡ 0 → lowest f l ≡ 18446744073709551615
  none_lowest [] h e = refl
  none_lowest (x ∷ xs) h e = let a = h zero x refl (omega arith) in let b = none_lowest xs (λ i. h (suc i)) (omega arith) in omega arith

  -- where one has all of g, its f is the least
  pub sole_lowest : (l : List A) (i : ℕ) (v : A) → get_elem? l i ≡ some v → ((j : ℕ) (u : A) → get_elem? l j ≡ some u → g u ≡ 0 → f u ≡ 18446744073709551615) → total g l ≡ g v → lowest f l ≡ min (f v) 18446744073709551615
  sole_lowest [] i v at h e = absurd (some-ne-none v (sym at))
  sole_lowest (x ∷ xs) zero v at h e =
      let is : g x ≡ g v = ap g (some-injective x v at) in let fs : f x ≡ f v = ap f (some-injective x v at) in
      let b = none_lowest xs (λ i. h (suc i)) (omega arith) in omega arith
  sole_lowest (x ∷ xs) (suc i) v at h e =
      let le = part_le g xs i v at in let z = h zero x refl (omega arith) in
      let b = sole_lowest xs i v at (λ j. h (suc j)) (omega arith) in let most = lowest_most f xs in omega arith

  -- the lesser numbers have the lesser sum
  pub total_le : ((u : A) → f u ≤ g u) → (l : List A) → total f l ≤ total g l
  total_le h [] = zero-le
  total_le h (x ∷ xs) = let a = h x in let r = total_le h xs in omega arith

-- what is below a number is below a larger one
pub once_mono : (x a b : ℕ) → a ≤ b → once_below x a ≤ once_below x b
once_mono x a b h = grind (arith, nat_tests)

-- one number more is below the next one
pub once_more : (x k : ℕ) → cond (nat_eq k x) 1 0 + once_below x k ≡ once_below x (k + 1)
once_more x k = grind (arith, nat_tests)

-- it is 0 or 1
pub once_le : (x n : ℕ) → once_below x n ≤ 1
once_le x n = grind (arith, nat_tests)

-- 1 below n
pub once_is : (x n : ℕ) → x < n → once_below x n ≡ 1
once_is x n h = grind (arith, nat_tests)

-- and 0 above
pub once_none : (x n : ℕ) → n ≤ x → once_below x n ≡ 0
once_none x n h = grind (arith, nat_tests)

-- what counts stands below n
pub below_n : (x n : ℕ) → 0 < once_below x n → x < n
below_n x n h = grind (arith, nat_tests)

-- without a pair of a block its codes are 0
pub no_code_sum : (b : ℕ) (ps : List (ℕ × ℕ)) → pairs_of b ps ≡ 0 → code_sum b ps ≡ 0
no_code_sum b [] e = refl
no_code_sum b (p ∷ ps) e = at (nat_eq p.0 b) e (no_code_sum b ps)
  where
    at : (t : Bool) → cond t 1 0 + pairs_of b ps ≡ 0 → (pairs_of b ps ≡ 0 → code_sum b ps ≡ 0) → cond t p.1 0 + code_sum b ps ≡ 0
    at true h r = absurd (omega arith)
    at false h r = let r' = r (omega arith) in omega arith

-- with one pair at most, the sum of the codes is the code
pub sum_is_code : (b : ℕ) (ps : List (ℕ × ℕ)) → pairs_of b ps ≤ 1 → code_sum b ps ≡ code_of b ps
sum_is_code b [] e = refl
sum_is_code b (p ∷ ps) e = at (nat_eq p.0 b) e (sum_is_code b ps) (no_code_sum b ps)
  where
    at : (t : Bool) → cond t 1 0 + pairs_of b ps ≤ 1 → (pairs_of b ps ≤ 1 → code_sum b ps ≡ code_of b ps) → (pairs_of b ps ≡ 0 → code_sum b ps ≡ 0)
        → cond t p.1 0 + code_sum b ps ≡ cond t p.1 (code_of b ps)
    at true h r z = let z' = z (omega arith) in omega arith
    at false h r z = let r' = r (omega arith) in omega arith

-- codes that do not add up to 0 have a pair
pub some_pair : (b : ℕ) (ps : List (ℕ × ℕ)) → 0 < code_sum b ps → (c : ℕ) × Contains ps (b, c)
some_pair b [] e = absurd (omega arith)
some_pair b (p ∷ ps) e = at (nat_eq p.0 b) refl e (some_pair b ps)
  where
    at : (t : Bool) → nat_eq p.0 b ≡ t → 0 < cond t p.1 0 + code_sum b ps → (0 < code_sum b ps → (c : ℕ) × Contains ps (b, c)) → (c : ℕ) × Contains (p ∷ ps) (b, c)
    at true is h more = let same : p.0 ≡ b = eqb-true p.0 b is in (p.1, (0, omega arith, ap (λ (z : ℕ). (z, p.1)) same))
    at false is h more = let r = more (omega arith) in let lt = r.1.1 in (r.0, (suc r.1.0, omega arith, r.1.2))

-- a number that stands some times in a list is an element of it
pub some_time : (x : ℕ) (xs : List ℕ) → 0 < times x xs → Contains xs x
some_time x [] e = absurd (omega arith)
some_time x (y ∷ ys) e = at (nat_eq y x) refl e (some_time x ys)
  where
    at : (t : Bool) → nat_eq y x ≡ t → 0 < cond t 1 0 + times x ys → (0 < times x ys → Contains ys x) → Contains (y ∷ ys) x
    at true is h more = (0, omega arith, eqb-true y x is)
    at false is h more = let r = more (omega arith) in let lt = r.1 in (suc r.0, omega arith, r.2)

-- an element that was put in stands there
pub set_there : {A : Type 0} (l : List A) (i : ℕ) (a b : A) → get_elem? l i ≡ some a → get_elem? (set l i b) i ≡ some b
set_there [] i a b e = absurd (some-ne-none a (sym e))
set_there (x ∷ xs) zero a b e = refl
set_there (x ∷ xs) (suc i) a b e = set_there xs i a b e
