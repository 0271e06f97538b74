-- How many tokens of one kind stand in a row at the end of a list.
use Rattle.std.proofs.Common.{◌≡◌, ◌≤◌, ◌+◌, ℕ, zero, suc, cond, Bool, true, false, List, [], ◌∷◌, ◌++◌, length, replicate, ⊎_elim, refl, sym, ap, ◌∙◌, arith, add-one}
use Rattle.std.specs.List.{prefix_len, suffix_len}
use mathlib.Core.List.{reverse}
use Rattle.std.proofs.lemmas.List.{append_assoc, append-nil, reverse-append, reverse-reverse, length-reverse}
use Rattle.std.proofs.lemmas.Bool.{cond-true, cond-false, cases_Bool}
use Rattle.std.proofs.lemmas.List.Sums.{prefix_len-le-length}
use Rattle.std.proofs.lemmas.Grind.{replicate_next}

-- a list turned round begins with its last element
pub reverse_push : {X : Type 0} (xs : List X) (x : X) → reverse (xs ++ (x ∷ [])) ≡ x ∷ reverse xs
reverse_push xs x = reverse-append xs (x ∷ [])

-- the first element of a list turned round is its last
pub reverse_cons : {X : Type 0} (x : X) (xs : List X) → reverse (x ∷ xs) ≡ reverse xs ++ (x ∷ [])
reverse_cons x xs = reverse-append (x ∷ []) xs

-- one more element that passes makes the row longer
pub suffix_push_yes : {X : Type 0} (test : X → Bool) (xs : List X) (x : X) → test x ≡ true → suffix_len test (xs ++ (x ∷ [])) ≡ 1 + suffix_len test xs
suffix_push_yes test xs x passes = ap (prefix_len test) (reverse_push xs x) ∙ ap (λ (b : Bool). cond b (1 + prefix_len test (reverse xs)) 0) passes

-- one more element that fails ends the row
pub suffix_push_no : {X : Type 0} (test : X → Bool) (xs : List X) (x : X) → test x ≡ false → suffix_len test (xs ++ (x ∷ [])) ≡ 0
suffix_push_no test xs x fails = ap (prefix_len test) (reverse_push xs x) ∙ ap (λ (b : Bool). cond b (1 + prefix_len test (reverse xs)) 0) fails

-- a row is not longer than the list
pub suffix_within : {X : Type 0} (test : X → Bool) (xs : List X) → suffix_len test xs ≤ length xs
suffix_within test xs =
    let front : suffix_len test xs ≤ length (reverse xs) = prefix_len-le-length test (reverse xs) in
    let same : length (reverse xs) ≡ length xs = length-reverse xs in
    omega arith

-- one more element of a row that stands at the end of a list
row_next : {X : Type 0} (n : ℕ) (xs : List X) (x : X) → xs ++ replicate (suc n) x ≡ (xs ++ (x ∷ [])) ++ replicate n x
row_next n xs x = sym (append_assoc xs (x ∷ []) (replicate n x))

-- a row of elements that pass counts to the row at the end
pub row_counts : {X : Type 0} (test : X → Bool) (n : ℕ) (xs : List X) (x : X) → test x ≡ true → suffix_len test (xs ++ replicate n x) ≡ suffix_len test xs + n
row_counts test zero xs x passes =
    let same : suffix_len test (xs ++ []) ≡ suffix_len test xs = ap (suffix_len test) (append-nil xs) in
    omega arith
row_counts test (suc n) xs x passes =
    let one = suffix_push_yes test xs x passes in
    let more = row_counts test n (xs ++ (x ∷ [])) x passes in
    let same : suffix_len test (xs ++ replicate (suc n) x) ≡ suffix_len test ((xs ++ (x ∷ [])) ++ replicate n x) = ap (suffix_len test) (row_next n xs x) in
    omega arith

-- a row turned round is the same row
reverse-replicate : {X : Type 0} (n : ℕ) (x : X) → reverse (replicate n x) ≡ replicate n x
reverse-replicate zero x = refl
reverse-replicate (suc n) x = reverse_cons x (replicate n x) ∙ ap (λ ys. ys ++ (x ∷ [])) (reverse-replicate n x) ∙ sym (replicate_next n x) ∙ ap (λ m. replicate m x) (add-one n)

-- where so many elements pass from the front on, and only x passes, the list begins with a row of x
row_at_front : {X : Type 0} (test : X → Bool) (x : X) → ((y : X) → test y ≡ true → y ≡ x) → (n : ℕ) (ys : List X) → n ≤ prefix_len test ys → (rest : List X) × (ys ≡ replicate n x ++ rest)
row_at_front test x one zero ys long = (ys, refl)
row_at_front test x one (suc n) [] long = absurd (omega arith)
row_at_front test x one (suc n) (y ∷ ys) long =
    ⊎_elim
    (λ (passes : test y ≡ true).
    let size = cond-true (test y) (1 + prefix_len test ys) 0 passes in
    let more = row_at_front test x one n ys (omega arith) in
    let same : y ≡ x = one y passes in
    let tail : ys ≡ replicate n x ++ more.0 = more.1 in
    (more.0, cc))
    (λ (fails : test y ≡ false). let size = cond-false (test y) (1 + prefix_len test ys) 0 fails in absurd (omega arith))
    (cases_Bool (test y))

-- where so many elements pass at the end, and only x passes, the list ends with a row of x
pub row_at_end : {X : Type 0} (test : X → Bool) (x : X) → ((y : X) → test y ≡ true → y ≡ x) → (n : ℕ) (xs : List X) → n ≤ suffix_len test xs → (front : List X) × (xs ≡ front ++ replicate n x)
row_at_end test x one n xs long =
    let row = row_at_front test x one n (reverse xs) long in (
      reverse row.0,
      sym (reverse-reverse xs) ∙ ap reverse row.1 ∙ reverse-append (replicate n x) row.0 ∙ ap (λ ys. reverse row.0 ++ ys) (reverse-replicate n x),
    )
