-- The first of the choices, list by list from the last.
use Rattle.std.proofs.Common.{◌≡◌, ℕ, zero, suc, ◌+◌, ◌*◌, ◌<◌, ◌≤◌, ◌^◌, List, [], ◌∷◌, ◌++◌, length, get_or, set, take, drop, map, min, Bool, true, false, cond, Some, None, refl, sym, ap, ◌∙◌, inl, inr, arith}
use Rattle.std.specs.Prelude.{filter, flat_map, option_map, slice_get}
use Rattle.std.proofs.lemmas.Bool.{cases_lt}
use Rattle.std.proofs.lemmas.List.{length-set, at_drop_more}
use Rattle.std.proofs.lemmas.Option.{get_or_from_slice_get, slice_get_within}
use Rattle.trace_meaning.proofs.CombinationLemmas.{digit}
use Rattle.successors.specs.Partition.{joint_lists, choice_lists}
use Rattle.successors.proofs.PlaceLemmas.{empty}
use Rattle.successors.proofs.DecodeLemmas.{cut_at, some_at, written}

-- no item of a list, and the first
none_some : {X : Type 0} (xs : List X) → None ≡ slice_get xs 0 → length xs ≡ 0
none_some [] none = refl
none_some (x ∷ xs) none = absurd (cc)

pub some_first : {X : Type 0} (xs : List X) (x : X) → Some x ≡ slice_get xs 0 → 0 < length xs
some_first xs x is = slice_get_within xs 0 x (sym is)

-- where the items before one don't pass a test and neither does it, those that pass are those after it
pub passed_over : (p : ℕ → Bool) (xs : List ℕ) (i x : ℕ) → i < length xs → x ≡ get_or xs i x → p x ≡ false → filter p (drop i xs) ≡ filter p xs
    → filter p (drop (i + 1) xs) ≡ filter p xs
passed_over p xs i x lt is fails so =
    sym (ap (λ b. cond b (x ∷ filter p (drop (i + 1) xs)) (filter p (drop (i + 1) xs))) fails)
    ∙ ap (λ y. filter p (y ∷ drop (i + 1) xs)) is
    ∙ sym (at_drop_more (filter p) xs i x lt)
    ∙ so

-- and where it does, it is the first of them
pub passes_first : (p : ℕ → Bool) (xs : List ℕ) (i x : ℕ) → i < length xs → x ≡ get_or xs i x → p x ≡ true → filter p (drop i xs) ≡ filter p xs
    → filter p xs ≡ x ∷ filter p (drop (i + 1) xs)
passes_first p xs i x lt is passes so =
    sym so
    ∙ at_drop_more (filter p) xs i x lt
    ∙ sym (ap (λ y. filter p (y ∷ drop (i + 1) xs)) is)
    ∙ ap (λ b. cond b (x ∷ filter p (drop (i + 1) xs)) (filter p (drop (i + 1) xs))) passes

-- a product that is cut off twice
capped_at_most : (x m c : ℕ) → x ≤ c → min (min x c * m) c ≡ min (x * m) c
capped_at_most x m c le = let same : min x c ≡ x = omega (arith, le) in ap (λ k. min (k * m) c) same

capped_above : (x m c : ℕ) → c < x → min (min x c * m) c ≡ min (x * m) c
capped_above x zero c lt = grind arith
capped_above x (suc m) c lt =
    let same : min x c ≡ c = omega (arith, lt) in
    let first : c ≤ c * suc m = grind arith in
    let second : c ≤ x * suc m = grind (arith, lt) in
    ap (λ k. min (k * suc m) c) same ∙ omega (arith, first, second)

capped : (x m c : ℕ) → min (min x c * m) c ≡ min (x * m) c
capped x m c = elim (cases_lt c x) [ inl lt ↦ capped_above x m c lt | inr le ↦ capped_at_most x m c le ]

turned : (a b : ℕ) → a * b ≡ b * a
turned a b = grind arith

-- from a place on each list has an enabled command: the first of each stands there, and they make so many choices
pub record Found (p : ℕ → Bool) (lists : List (List ℕ)) (place product : ℕ) (chosen : List ℕ) : Type 0 where
  pub within : place ≤ length lists
  pub long : length lists ≤ length chosen
  pub counted : product ≡ min (length (joint_lists p (drop place lists))) (2 ^ 48 + 1)
  pub found : slice_get (joint_lists p (drop place lists)) 0 ≡ Some (drop place (take (length lists) chosen))

-- one list further, from the last
pub found_next : (p : ℕ → Bool) (lists : List (List ℕ)) (place product count next command : ℕ) (chosen list : List ℕ) → place < length lists → list ≡ get_or lists place list
    → Found p lists (place + 1) product chosen → count ≡ length (filter p list) → Some command ≡ slice_get (filter p list) 0 → next ≡ min (product * count) (2 ^ 48 + 1)
    → Found p lists place next (set chosen place command)
found_next p lists place product count next command chosen list lt is so counts first nexts =
    let n : ℕ = length (joint_lists p (drop (place + 1) lists)) in
    let c : ℕ = length (filter p list) in
    let cut = cut_at p lists place list lt is in
    let low : 0 < c = some_first (filter p list) command first in
    let below : 0 < n = slice_get_within (joint_lists p (drop (place + 1) lists)) 0 (drop (place + 1) (take (length lists) chosen)) so.found in
    record {
      within = omega (arith, lt);
      long = omega (arith, so.long, length-set chosen place command);
      counted =
          nexts
          ∙ (λ i. min (so.counted i * counts i) (2 ^ 48 + 1))
          ∙ capped n c (2 ^ 48 + 1)
          ∙ ap (λ k. min k (2 ^ 48 + 1)) (turned n c ∙ sym cut.size);
      found =
          ap (λ ls. slice_get ls 0) cut.is
          ∙ digit (filter p list) (map (filter p) (drop (place + 1) lists)) 0 0 0 command low below (omega arith)
          ∙ ap (option_map (λ others. get_or (filter p list) 0 command ∷ others)) so.found
          ∙ ap (λ x. Some (x ∷ drop (place + 1) (take (length lists) chosen))) (get_or_from_slice_get (filter p list) 0 command command (sym first))
          ∙ ap Some (sym (written chosen place (length lists) command lt so.long));
    }

-- where a list has no enabled command there is no choice
pub none_joint : (p : ℕ → Bool) (lists : List (List ℕ)) (place : ℕ) (list : List ℕ) → place < length lists → list ≡ get_or lists place list → None ≡ slice_get (filter p list) 0
    → length (joint_lists p lists) ≡ 0
none_joint p lists place list lt is none =
    elim (cases_lt 0 (length (joint_lists p lists))) [
      | inl there ↦ absurd (omega (arith, some_at p lists place 0 list lt is there, none_some (filter p list) none))
      | inr past ↦ omega (arith, past)
    ]

-- where no command alone is enabled the choices are those of actions
pub joint_alone : (p : ℕ → Bool) (alone : List ℕ) (joint : List (List (List ℕ))) → None ≡ slice_get (filter p alone) 0 → choice_lists p alone joint ≡ flat_map (joint_lists p) joint
joint_alone p alone joint none =
    ap (λ (ns : List ℕ). map (λ number. number ∷ []) ns ++ flat_map (joint_lists p) joint) (empty (filter p alone) (none_some (filter p alone) none))
