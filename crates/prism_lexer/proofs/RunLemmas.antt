-- Runs: the elements at the front of a list that pass a test.
use Rattle.std.proofs.Common.{◌≡◌, ℕ, ◌+◌, ◌≤◌, Bool, true, false, List, [], ◌∷◌, ◌++◌, length, take, drop, ⊎_elim, refl, sym, ◌∙◌, ap, subst, arith, one-add}
use lib.Seq.{take-append_seam}
use Rattle.std.specs.List.{prefix_len, list_all}
use Rattle.std.proofs.lemmas.Bool.{cases_Bool, cond-true, cond-false, and_from, and_parts}

-- a list does not go on with an element that passes
abbrev pub Stops : {X : Type 0} → (X → Bool) → List X → Type 0
Stops p [] = Unit {0}
Stops p (c ∷ cs) = p c ≡ false

-- the run passes
pub run_passes : {X : Type 0} (p : X → Bool) (xs : List X) → list_all p (take (prefix_len p xs) xs) ≡ true
run_passes p [] = refl
run_passes p (c ∷ cs) =
    ⊎_elim
    (λ (is_true : p c ≡ true). subst (λ n. list_all p (take n (c ∷ cs)) ≡ true) (sym (cond-true _ _ _ is_true ∙ one-add (prefix_len p cs))) (and_from _ _ is_true (run_passes p cs)))
    (λ (is_false : p c ≡ false). subst (λ n. list_all p (take n (c ∷ cs)) ≡ true) (sym (cond-false _ _ _ is_false)) refl)
    (cases_Bool (p c))

-- what follows the run does not go on with it
pub run_stops : {X : Type 0} (p : X → Bool) (xs : List X) → Stops p (drop (prefix_len p xs) xs)
run_stops p [] = tt
run_stops p (c ∷ cs) =
    ⊎_elim
    (λ (is_true : p c ≡ true). subst (λ n. Stops p (drop n (c ∷ cs))) (sym (cond-true _ _ _ is_true ∙ one-add (prefix_len p cs))) (run_stops p cs))
    (λ (is_false : p c ≡ false). subst (λ n. Stops p (drop n (c ∷ cs))) (sym (cond-false _ _ _ is_false)) is_false)
    (cases_Bool (p c))

-- elements that pass, with one after them that does not, are the run
pub run_whole : {X : Type 0} (p : X → Bool) (front rest : List X) → list_all p front ≡ true → Stops p rest → prefix_len p (front ++ rest) ≡ length front
run_whole p [] [] all stops = refl
run_whole p [] (c ∷ cs) all stops = cond-false _ _ _ stops
run_whole p (d ∷ ds) rest all stops =
    let parts = and_parts _ _ all in
    cond-true _ _ _ parts.0 ∙ ap (λ n. 1 + n) (run_whole p ds rest parts.1 stops) ∙ omega arith

-- elements at the front that pass are no more than the run
pub run_most : {X : Type 0} (p : X → Bool) (front rest : List X) → list_all p front ≡ true → length front ≤ prefix_len p (front ++ rest)
run_most p [] rest all = omega arith
run_most p (d ∷ ds) rest all =
    let parts = and_parts _ _ all in
    let more : prefix_len p (d ∷ (ds ++ rest)) ≡ 1 + prefix_len p (ds ++ rest) = cond-true _ _ _ parts.0 in
    let below : length ds ≤ prefix_len p (ds ++ rest) = run_most p ds rest parts.1 in
    omega arith

-- the front of a text of so many bytes
pub front_is : (text front rest : List ℕ) (n : ℕ) → text ≡ front ++ rest → length front ≡ n → take n text ≡ front
front_is text front rest n cut size = (λ i. take (sym size i) (cut i)) ∙ take-append_seam front rest
