-- The choice of a number, digit by digit from the last.
use Rattle.std.proofs.Common.{◌≡◌, ℕ, zero, suc, ◌+◌, ◌*◌, ◌/◌, ◌%◌, ◌<◌, ◌≤◌, List, [], ◌∷◌, length, get_or, set, take, drop, map, Bool, Some, refl, sym, ap, ◌∙◌, subst, arith}
use Rattle.std.specs.Prelude.{filter, slice_get, option_map}
use Rattle.std.proofs.Math.Nat.{div-add-mod}
use Rattle.std.proofs.lemmas.List.{length-map, length-set, at_drop_more}
use Rattle.std.proofs.lemmas.Option.{get_or_from_slice_get}
use Rattle.chain_model.specs.Choices.{combinations}
use Rattle.trace_meaning.proofs.CombinationLemmas.{many, digit}
use Rattle.successors.specs.Partition.{joint_lists}
use Rattle.successors.proofs.CountLemmas.{enabled_at}

-- the digits from a place on are read: `rest` is the number that they make, `left` the number without them, and the
-- commands that they say stand from the place on
pub record Decoded (p : ℕ → Bool) (lists : List (List ℕ)) (number place left : ℕ) (chosen : List ℕ) : Type 0 where
  pub within : place ≤ length lists
  pub long : length lists ≤ length chosen
  pub rest : ℕ
  pub below : rest < length (joint_lists p (drop place lists))
  pub whole : number ≡ left * length (joint_lists p (drop place lists)) + rest
  pub found : slice_get (joint_lists p (drop place lists)) rest ≡ Some (drop place (take (length lists) chosen))

-- the lists from a place on are the list there and the further ones
pub record Cut (p : ℕ → Bool) (lists : List (List ℕ)) (place : ℕ) (list : List ℕ) : Type 0 where
  pub is : joint_lists p (drop place lists) ≡ combinations (filter p list ∷ map (filter p) (drop (place + 1) lists))
  pub size : length (joint_lists p (drop place lists)) ≡ length (filter p list) * length (joint_lists p (drop (place + 1) lists))

pub cut_at : (p : ℕ → Bool) (lists : List (List ℕ)) (place : ℕ) (list : List ℕ) → place < length lists → list ≡ get_or lists place list → Cut p lists place list
cut_at p lists place list lt is =
    let cut = at_drop_more (joint_lists p) lists place list lt ∙ ap (λ l. joint_lists p (l ∷ drop (place + 1) lists)) (sym is) in
    record { is = cut; size = ap length cut ∙ many (filter p list) (map (filter p) (drop (place + 1) lists)) }

-- a number is made of its last digit, and of the number without it
split_product : (a b c n rest : ℕ) → (c * a + b) * n + rest ≡ a * (c * n) + (b * n + rest)
split_product a b c n rest = grind arith

split : (left n c rest number : ℕ) → number ≡ left * n + rest → number ≡ left / c * (c * n) + (left % c * n + rest)
split left n c rest number is =
    is ∙ ap (λ l. l * n + rest) (sym (div-add-mod left c)) ∙ split_product (left / c) (left % c) c n rest

-- a digit and what follows it are below their product
digit_below : (q c n rest : ℕ) → q < c → rest < n → q * n + rest < c * n
digit_below q c n rest lt below = let some : q * n + n ≤ c * n = grind arith in omega (arith, some, below)

-- a command is written before those that stand
pub written : (chosen : List ℕ) (place n x : ℕ) → place < n → n ≤ length chosen → drop place (take n (set chosen place x)) ≡ x ∷ drop (place + 1) (take n chosen)
written [] place n x lt long = absurd (omega (arith, lt, long))
written (y ∷ ys) place zero x lt long = absurd (omega (arith, lt))
written (y ∷ ys) zero (suc n) x lt long = (let one : 1 ≡ 0 + 1 = omega arith in ap (λ k. x ∷ drop k (y ∷ take n ys)) one)
written (y ∷ ys) (suc place) (suc n) x lt long =
    (let next : suc (place + 1) ≡ suc place + 1 = omega arith in written ys place n x (omega (arith, lt)) (omega (arith, long)) ∙ ap (λ k. x ∷ drop k (y ∷ take n ys)) next)

-- a product that is not 0 has no factor 0
some_left : (a b : ℕ) → 0 < a * b → 0 < a
some_left zero b some = absurd (grind (arith, some))
some_left (suc a) b some = omega arith

some_right : (a b : ℕ) → 0 < a * b → 0 < b
some_right a zero some = absurd (grind (arith, some))
some_right a (suc b) some = omega arith

-- where there is a choice, each of the lists has an item
some_each : (lists : List (List ℕ)) (i : ℕ) (d : List ℕ) → i < length lists → 0 < length (combinations lists) → 0 < length (get_or lists i d)
some_each [] i d lt some = absurd (omega (arith, lt))
some_each (list ∷ lists) zero d lt some = some_left (length list) (length (combinations lists)) (omega (arith, some, many list lists))
some_each (list ∷ lists) (suc i) d lt some =
    some_each lists i d (omega (arith, lt)) (some_right (length list) (length (combinations lists)) (omega (arith, some, many list lists)))

-- so each of an action's lists has an enabled command
pub some_at : (p : ℕ → Bool) (lists : List (List ℕ)) (place number : ℕ) (list : List ℕ) → place < length lists → list ≡ get_or lists place list
    → number < length (joint_lists p lists) → 0 < length (filter p list)
some_at p lists place number list lt is there =
    subst (λ ls. 0 < length ls) (sym (enabled_at p lists place list lt is))
    (some_each (map (filter p) lists) place (filter p list) (omega (arith, lt, length-map lists (filter p))) (omega (arith, there)))

-- one digit further
pub decoded_next : (p : ℕ → Bool) (lists : List (List ℕ)) (number place left command higher : ℕ) (chosen list : List ℕ) → place < length lists → list ≡ get_or lists place list
    → Decoded p lists number (place + 1) left chosen → 0 < length (filter p list)
    → slice_get (filter p list) (left % length (filter p list)) ≡ Some command → higher ≡ left / length (filter p list)
    → Decoded p lists number place higher (set chosen place command)
decoded_next p lists number place left command higher chosen list lt is so some digit_is higher_is =
    let n : ℕ = length (joint_lists p (drop (place + 1) lists)) in
    let c : ℕ = length (filter p list) in
    let q : ℕ = left % c in
    let cut = cut_at p lists place list lt is in
    let low : q < c = omega (arith, some) in
    let inside : q * n + so.rest < c * n = digit_below q c n so.rest low so.below in
    record {
      within = omega (arith, lt);
      long = omega (arith, so.long, length-set chosen place command);
      rest = q * n + so.rest;
      below = omega (arith, inside, cut.size);
      whole = split left n c so.rest number so.whole ∙ ap (λ s. left / c * s + (q * n + so.rest)) (sym cut.size) ∙ ap (λ h. h * length (joint_lists p (drop place lists)) + (q * n + so.rest)) (sym higher_is);
      found =
          ap (λ ls. slice_get ls (q * n + so.rest)) cut.is
          ∙ digit (filter p list) (map (filter p) (drop (place + 1) lists)) q so.rest (q * n + so.rest) command low so.below refl
          ∙ ap (option_map (λ others. get_or (filter p list) q command ∷ others)) so.found
          ∙ ap (λ x. Some (x ∷ drop (place + 1) (take (length lists) chosen))) (get_or_from_slice_get (filter p list) q command command digit_is)
          ∙ ap Some (sym (written chosen place (length lists) command lt so.long));
    }

-- where the number is that of a choice, no number is left beyond the digits
beyond : (left n rest : ℕ) → left * n + rest < n → left ≡ 0
beyond zero n rest lt = refl
beyond (suc left) n rest lt = absurd (grind (arith, lt))

-- all digits are read
pub decoded_all : (p : ℕ → Bool) (lists : List (List ℕ)) (number left : ℕ) (chosen : List ℕ) → Decoded p lists number 0 left chosen → number < length (joint_lists p lists)
    → slice_get (joint_lists p lists) number ≡ Some (take (length lists) chosen)
decoded_all p lists number left chosen so there =
    let n : ℕ = length (joint_lists p lists) in
    let none : left ≡ 0 = beyond left n so.rest (omega (arith, there, so.whole)) in
    let same : number ≡ so.rest = so.whole ∙ ap (λ l. l * n + so.rest) none ∙ omega arith in
    ap (slice_get (joint_lists p lists)) same ∙ so.found
