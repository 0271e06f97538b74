-- Names that are gathered, counted and looked through one after another.
use Rattle.std.proofs.Common.{◌≡◌, ℕ, ◌+◌, ◌<◌, ◌≤◌, List, [], ◌∷◌, ◌++◌, Option, Bool, true, false, length, get_or, take, drop, map, count_by, find, unwrap_or, bytes_eq, cond, arith, refl, sym, ap, ◌∙◌, subst, append_assoc, nat_lt}
use Rattle.std.specs.Prelude.{None, Some}
use mathlib.Core.Logic.{inl, inr}
use Rattle.std.specs.Bool.{Decides}
use Rattle.std.specs.Option.{option_or}
use Rattle.std.proofs.lemmas.Bool.{cases_Bool}
use Rattle.std.proofs.lemmas.Grind.{common_steps}
use Rattle.std.proofs.lemmas.List.{map_more, map-append, take-append-drop}
use Rattle.std.proofs.lemmas.List.Folds.{find-append}
use Rattle.std.proofs.lemmas.Slice.Eq.{bytes_eq-Decides}
use Rattle.prism_names.specs.First.{Name}
use Rattle.prism_names.specs.Names.{concatenated}

-- what an item of a loop gives is the last of what the items so far give
pub one_more : {X Y : Type 0} (f : X → Y) (xs : List X) (i : ℕ) (x : X) → i < length xs → x ≡ get_or xs i x → map f (take (i + 1) xs) ≡ map f (take i xs) ++ (f x ∷ [])
one_more f xs i x lt is = map_more f xs i x lt ∙ ap (λ y. map f (take i xs) ++ (f y ∷ [])) (sym is)

-- one list more stands behind the others
pub concatenated_more : (lists : List (List Name)) (names : List Name) → concatenated (lists ++ (names ∷ [])) ≡ concatenated lists ++ names
concatenated_more [] names = grind (arith, common_steps)
concatenated_more (first ∷ lists) names = ap (λ rest. first ++ rest) (concatenated_more lists names) ∙ sym (append_assoc first (concatenated lists) names)

-- names that are appended after those of the items so far
pub appended_more : (before now after names : List Name) (lists more : List (List Name)) → more ≡ lists ++ (names ∷ [])
    → now ≡ before ++ concatenated lists → after ≡ now ++ names → after ≡ before ++ concatenated more
appended_more before now after names lists more is so_far then =
    then ∙ (ap (λ front. front ++ names) so_far ∙ (append_assoc before (concatenated lists) names ∙ ap (λ rest. before ++ rest) (sym (ap concatenated is ∙ concatenated_more lists names))))

same_bytes : (m n : Name) → bytes_eq m n ≡ true → m ≡ n
same_bytes m n e = (subst (λ b. Decides b (m ≡ n)) e (bytes_eq-Decides m n)).0 refl

count_more : (test : Name → Bool) (front : List Name) (m : Name) → count_by test (front ++ (m ∷ [])) ≡ count_by test front + cond (test m) 1 0
count_more test front m = grind (arith, common_steps)

-- one name more is counted
pub counted_more : (front more : List Name) (m : Name) (old new : Name → Option ℕ) (before : ℕ) → more ≡ front ++ (m ∷ [])
    → ((n : Name) → unwrap_or (old n) 0 ≡ count_by (λ other. bytes_eq other n) front) → before ≡ unwrap_or (old m) 0
    → ((n : Name) → new n ≡ cond (bytes_eq m n) (Some (before + 1)) (old n)) → (n : Name) → unwrap_or (new n) 0 ≡ count_by (λ other. bytes_eq other n) more
counted_more front more m old new before is so far put n = elim (cases_Bool (bytes_eq m n)) [
  | inl same ↦
      let here : unwrap_or (new n) 0 ≡ before + 1 = ap (λ o. unwrap_or o 0) (put n ∙ ap (λ b. cond b (Some (before + 1)) (old n)) same) in
      let was : unwrap_or (old m) 0 ≡ count_by (λ other. bytes_eq other n) front = ap (λ z. unwrap_or (old z) 0) (same_bytes m n same) ∙ so n in
      here ∙ (ap (λ k. k + 1) (far ∙ was) ∙ sym (counts ∙ ap (λ b. count_by (λ other. bytes_eq other n) front + cond b 1 0) same))
  | inr other ↦
      let here : unwrap_or (new n) 0 ≡ unwrap_or (old n) 0 = ap (λ o. unwrap_or o 0) (put n ∙ ap (λ b. cond b (Some (before + 1)) (old n)) other) in
      let total : count_by (λ other. bytes_eq other n) more ≡ count_by (λ other. bytes_eq other n) front + 0 =
      counts ∙ ap (λ b. count_by (λ other. bytes_eq other n) front + cond b 1 0) other in
      omega (arith, here, so n, total)
]
  where
    counts : count_by (λ other. bytes_eq other n) more ≡ count_by (λ other. bytes_eq other n) front + cond (bytes_eq m n) 1 0
    counts = ap (count_by (λ other. bytes_eq other n)) is ∙ count_more (λ other. bytes_eq other n) front m

-- none is found among the names so far and one more that does not pass
pub none_more : (test : Name → Bool) (front more : List Name) (m : Name) → more ≡ front ++ (m ∷ []) → find test front ≡ None → test m ≡ false → find test more ≡ None
none_more test front more m is far fails =
    ap (find test) is ∙ (find-append test front (m ∷ []) ∙ (ap (λ o. option_or o (find test (m ∷ []))) far ∙ ap (λ b. cond b (Some m) None) fails))

-- a name that passes, where none before it does, is found in the whole list
pub found_first : (test : Name → Bool) (front more rest all : List Name) (m : Name) → more ≡ front ++ (m ∷ []) → all ≡ more ++ rest
    → find test front ≡ None → test m ≡ true → find test all ≡ Some m
found_first test front more rest all m is whole far holds =
    ap (find test) (whole ∙ ap (λ z. z ++ rest) is) ∙ (find-append test (front ++ (m ∷ [])) rest
    ∙ ap (λ o. option_or o (find test rest))
    (find-append test front (m ∷ []) ∙ (ap (λ o. option_or o (find test (m ∷ []))) far ∙ ap (λ b. cond b (Some m) None) holds)))

-- a mapped list is what its first items give and what the others give
pub mapped_parts : {X : Type 0} (f : X → Name) (xs : List X) (i : ℕ) → map f xs ≡ map f (take i xs) ++ map f (drop i xs)
mapped_parts f xs i = ap (map f) (sym (take-append-drop i xs)) ∙ map-append f (take i xs) (drop i xs)

pub is_repeated : (found counted : ℕ) → found ≡ counted → 1 < found → nat_lt 1 counted ≡ true
is_repeated found counted is lt = grind (arith, is, lt)

pub is_not_repeated : (found counted : ℕ) → found ≡ counted → found ≤ 1 → nat_lt 1 counted ≡ false
is_not_repeated found counted is le = grind (arith, is, le)
