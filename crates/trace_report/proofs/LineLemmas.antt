-- Lists side by side.
use Rattle.std.proofs.Common.{◌≡◌, ℕ, zero, suc, ◌+◌, ◌<◌, ◌≤◌, min, List, [], ◌∷◌, ◌++◌, length, drop, get_or, refl, sym, ap, ap₂, ◌∙◌, append_assoc, add-one, arith}
use Rattle.std.specs.List.{flat_map, zip}
use Rattle.std.proofs.lemmas.List.{append-nil}

-- what is told of two lists side by side, from an index on
abbrev pub told_from : {X Y : Type 0} → (X → Y → List ℕ) → List X → List Y → ℕ → List ℕ
told_from f xs ys i = flat_map (λ pair. f pair.0 pair.1) (zip (drop i xs) (drop i ys))

-- it is what is told of the items there, and of the others
pairs_next : {X Y : Type 0} (f : X → Y → List ℕ) (xs : List X) (ys : List Y) (i : ℕ) (x : X) (y default : Y)
    → i < min (length xs) (length ys) → x ≡ get_or xs i x → y ≡ get_or ys i default
    → told_from f xs ys i ≡ f x y ++ told_from f xs ys (suc i)
pairs_next f [] ys i x y default within first second = absurd (omega arith)
pairs_next f (a ∷ xs) [] i x y default within first second = absurd (omega arith)
pairs_next f (a ∷ xs) (b ∷ ys) zero x y default within first second =
    ap₂ (λ v w. f v w ++ flat_map (λ pair. f pair.0 pair.1) (zip xs ys)) (sym first) (sym second)
pairs_next f (a ∷ xs) (b ∷ ys) (suc i) x y default within first second =
    pairs_next f xs ys i x y default (omega arith) first second

-- beside no list there is nothing
beside_none : {X Y : Type 0} (f : X → Y → List ℕ) (xs : List X) → flat_map (λ pair. f pair.0 pair.1) (zip xs []) ≡ []
beside_none f [] = refl
beside_none f (a ∷ xs) = refl

-- past the end of the shorter list there is nothing
pairs_end : {X Y : Type 0} (f : X → Y → List ℕ) (xs : List X) (ys : List Y) (i : ℕ) → min (length xs) (length ys) ≤ i
    → told_from f xs ys i ≡ []
pairs_end f [] ys zero past = refl
pairs_end f [] ys (suc i) past = refl
pairs_end f (a ∷ xs) [] zero past = refl
pairs_end f (a ∷ xs) [] (suc i) past = beside_none f (drop i xs)
pairs_end f (a ∷ xs) (b ∷ ys) zero past = absurd (omega arith)
pairs_end f (a ∷ xs) (b ∷ ys) (suc i) past = pairs_end f xs ys i (omega arith)

-- one more pair is told
pub one_more_pair : {X Y : Type 0} (f : X → Y → List ℕ) (xs : List X) (ys : List Y) (i : ℕ) (x : X) (y default : Y)
    (before after whole : List ℕ) → i < min (length xs) (length ys)
    → x ≡ get_or xs i x → y ≡ get_or ys i default → after ≡ before ++ f x y
    → before ++ told_from f xs ys i ≡ whole → after ++ told_from f xs ys (i + 1) ≡ whole
one_more_pair f xs ys i x y default before after whole within first second more so_far =
    rw (add-one, more, append_assoc before (f x y) (told_from f xs ys (suc i)))
    (ap (λ rest. before ++ rest) (sym (pairs_next f xs ys i x y default within first second)) ∙ so_far)

-- all pairs are told
pub all_pairs : {X Y : Type 0} (f : X → Y → List ℕ) (xs : List X) (ys : List Y) (i : ℕ) (told whole : List ℕ)
    → min (length xs) (length ys) ≤ i → told ++ told_from f xs ys i ≡ whole → told ≡ whole
all_pairs f xs ys i told whole past so_far =
    sym (append-nil told) ∙ ap (λ rest. told ++ rest) (sym (pairs_end f xs ys i past)) ∙ so_far
