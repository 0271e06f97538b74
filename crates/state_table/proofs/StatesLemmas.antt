-- The states that stand in one row of values.
use Rattle.std.proofs.Common.{◌≡◌, ℕ, zero, suc, ◌+◌, ◌*◌, ◌-◌, ◌<◌, ◌≤◌, List, [], ◌∷◌, ◌++◌, length, take, drop, refl, sym, ap, ◌∙◌, arith, add-one, length-drop}
use Rattle.std.specs.Prelude.{ℤ, Some, None, slice_get}
use Rattle.std.proofs.lemmas.List.{take-append-le, drop-append-le, drop-drop}
use Rattle.std.proofs.Math.Seq.{take-length}
use Rattle.std.proofs.Math.Nat.{mul-le-mul_right}
use Rattle.state_table.specs.Table.{states_of}

-- there are so many
pub length-states : (width count : ℕ) (words : List ℤ) → length (states_of width count words) ≡ count
length-states width zero words = refl
length-states width (suc count) words = ap suc (length-states width count (drop width words))

-- a multiple and one more
suc-times : (n width : ℕ) → suc n * width ≡ width + n * width
suc-times n width = grind arith

-- the state of a number stands behind those before it
pub slice_get-states : (width count : ℕ) (words : List ℤ) (number : ℕ) → number < count
    → slice_get (states_of width count words) number ≡ Some (take width (drop (number * width) words))
slice_get-states width zero words number below = absurd (omega arith)
slice_get-states width (suc count) words zero below = ap (λ (n : ℕ). Some (take width (drop n words))) {x = 0} {y = zero * width} (grind arith)
slice_get-states width (suc count) words (suc number) below =
    slice_get-states width count (drop width words) number (omega arith)
    ∙ ap (λ (ws : List ℤ). Some (take width ws)) (drop-drop (number * width) width words)
    ∙ ap (λ (n : ℕ). Some (take width (drop n words))) (sym (suc-times number width))

-- a state ends before the next one, and no later than the last one
pub state_ends : (number count width : ℕ) → number < count → number * width + width ≤ count * width
state_ends number count width below =
    let more : suc number * width ≤ count * width = mul-le-mul_right width (omega arith) in
    let ends : suc number * width ≡ width + number * width = suc-times number width in
    omega arith

-- there is a first state where there are some
state_first : (width count many : ℕ) → many ≡ suc count * width → width ≤ many
state_first width count many is = let front = suc-times count width in omega arith

-- a state that is written behind the others is the last one
pub states-append : (width count : ℕ) (words state : List ℤ) → length words ≡ count * width → length state ≡ width
    → states_of width (count + 1) (words ++ state) ≡ states_of width count words ++ (state ∷ [])
states-append width zero [] state many long = ap (λ (s : List ℤ). s ∷ []) (ap (λ (n : ℕ). take n state) (sym long) ∙ take-length state)
states-append width zero (word ∷ words) state many long = absurd (grind arith)
states-append width (suc count) words state many long =
    let first : width ≤ length words = state_first width count (length words) many in
    let left : length (drop width words) ≡ count * width = grind (arith, length-drop {A = ℤ}, suc-times) in
    ap (λ (n : ℕ). states_of width n (words ++ state)) (add-one (suc count))
    ∙ ap (λ (s : List ℤ). s ∷ states_of width (suc count) (drop width (words ++ state))) (take-append-le width words state first)
    ∙ ap (λ (ws : List ℤ). take width words ∷ states_of width (suc count) ws) (drop-append-le width words state first)
    ∙ ap (λ (n : ℕ). take width words ∷ states_of width n (drop width words ++ state)) (sym (add-one count))
    ∙ ap (λ (ss : List (List ℤ)). take width words ∷ ss) (states-append width count (drop width words) state left long)

-- the last of a list has the number of those before it
pub slice_get-append_seam : {X : Type 0} (xs : List X) (x : X) → slice_get (xs ++ (x ∷ [])) (length xs) ≡ Some x
slice_get-append_seam [] x = refl
slice_get-append_seam (y ∷ ys) x = slice_get-append_seam ys x

-- a state that is written behind the others has the next number
pub slice_get-written : (width count : ℕ) (words state : List ℤ) → length words ≡ count * width → length state ≡ width
    → slice_get (states_of width (count + 1) (words ++ state)) count ≡ Some state
slice_get-written width count words state many long =
    ap (λ (ss : List (List ℤ)). slice_get ss count) (states-append width count words state many long)
    ∙ ap (λ (n : ℕ). slice_get (states_of width count words ++ (state ∷ [])) n) (sym (length-states width count words))
    ∙ slice_get-append_seam (states_of width count words) state
