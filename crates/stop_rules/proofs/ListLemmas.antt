-- Elements and prefixes of lists.
use Rattle.std.proofs.Common.{◌≡◌, ℕ, zero, suc, ◌+◌, ◌<◌, ◌≤◌, ◌⊎◌, inl, inr, List, [], ◌∷◌, ◌++◌, Some, refl, ap, arith, length, slice_get, take, map, zero-add, suc-add}

-- an element of a prefix is an element of the list
pub get_in_prefix : {X : Type 0} (k : ℕ) (xs : List X) (j : ℕ) (x : X) → slice_get (take k xs) j ≡ Some x → slice_get xs j ≡ Some x
get_in_prefix zero xs j x e = cc
get_in_prefix (suc k) [] j x e = cc
get_in_prefix (suc k) (y ∷ xs) zero x e = e
get_in_prefix (suc k) (y ∷ xs) (suc j) x e = get_in_prefix k xs j x e

-- an element of a list stands, mapped, at the same place of a longer one
pub get_mapped : {X Y : Type 0} (f : X → Y) (xs : List X) (ys : List Y) (j : ℕ) (x : X) → slice_get xs j ≡ Some x → slice_get (map f xs ++ ys) j ≡ Some (f x)
get_mapped f [] ys j x e = cc
get_mapped f (z ∷ xs) ys zero x e = let same : z ≡ x = cc in ap (λ v. Some (f v)) same
get_mapped f (z ∷ xs) ys (suc j) x e = get_mapped f xs ys j x e

-- what comes next after a list
pub get_next : {X Y : Type 0} (f : X → Y) (xs : List X) (y : Y) (ys : List Y) → slice_get (map f xs ++ y ∷ ys) (length xs) ≡ Some y
get_next f [] y ys = refl
get_next f (z ∷ xs) y ys = get_next f xs y ys

-- an element of a list stands so much later behind another one
pub get_behind : {X Y : Type 0} (f : X → Y) (first : List X) (more : List Y) (k : ℕ) (y : Y) → slice_get more k ≡ Some y → slice_get (map f first ++ more) (length first + k) ≡ Some y
get_behind f [] more k y e = rw (zero-add k) e
get_behind f (x ∷ first) more k y e = rw (suc-add (length first) k) (get_behind f first more k y e)

-- where the elements of one list stand in another one, they still do so behind the same elements
pub get_joined : {X Y : Type 0} (f : X → Y) (first more : List X) (ys : List Y) → ((k : ℕ) (x : X) → slice_get more k ≡ Some x → slice_get ys k ≡ Some (f x))
    → (k : ℕ) (x : X) → slice_get (first ++ more) k ≡ Some x → slice_get (map f first ++ ys) k ≡ Some (f x)
get_joined f [] more ys each k x e = each k x e
get_joined f (z ∷ first) more ys each zero x e = let same : z ≡ x = cc in ap (λ v. Some (f v)) same
get_joined f (z ∷ first) more ys each (suc k) x e = get_joined f first more ys each k x e

-- a prefix with one element more
pub take_one_more : {X : Type 0} (k : ℕ) (xs : List X) (x : X) → slice_get xs k ≡ Some x → take (suc k) xs ≡ take k xs ++ x ∷ []
take_one_more k [] x e = cc
take_one_more zero (y ∷ xs) x e = let same : y ≡ x = cc in ap (λ v. v ∷ []) same
take_one_more (suc k) (y ∷ xs) x e = ap (λ zs. y ∷ zs) (take_one_more k xs x e)

-- a prefix that ends before an element has the length that it is cut at
pub length-take_before : {X : Type 0} (k : ℕ) (xs : List X) (x : X) → slice_get xs k ≡ Some x → length (take k xs) ≡ k
length-take_before k [] x e = cc
length-take_before zero (y ∷ xs) x e = refl
length-take_before (suc k) (y ∷ xs) x e = ap suc (length-take_before k xs x e)

-- a number is at most another one, or that and some more
pub at_most_or_more : (m n : ℕ) → (m ≤ n) ⊎ ((k : ℕ) × (0 < k) × (m ≡ n + k))
at_most_or_more zero n = inl (omega arith)
at_most_or_more (suc m) zero = inr (suc m, omega arith, omega arith)
at_most_or_more (suc m) (suc n) = elim (at_most_or_more m n) [ inl h ↦ inl (omega (arith, h)) | inr h ↦ inr (h.0, h.1, let e = h.2 in omega arith) ]

-- two lists agree wherever both have an element
pub record Agree {X : Type 0} (a b : List X) : Type 0 where
  pub at : (k : ℕ) (x y : X) → slice_get a k ≡ Some x → slice_get b k ≡ Some y → x ≡ y

-- a list that agrees with a longer one is a prefix of it
pub prefix_of_agreed : {X : Type 0} (a b : List X) → length a ≤ length b → Agree a b → take (length a) b ≡ a
prefix_of_agreed [] b h agree = refl
prefix_of_agreed (x ∷ a) [] h agree = absurd (omega arith)
prefix_of_agreed (x ∷ a) (y ∷ b) h agree =
    let same : x ≡ y = agree.at 0 x y refl refl in
    let rest : take (length a) b ≡ a = prefix_of_agreed a b (omega arith) (record { at = λ k u v p q. agree.at (suc k) u v p q }) in
    rw (same, rest)
