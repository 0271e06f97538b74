-- Tables of the first item of each name.
use Rattle.std.proofs.Common.{◌≡◌, ℕ, zero, suc, ◌+◌, ◌<◌, ◌≤◌, List, [], ◌∷◌, ◌++◌, Option, Bool, true, false, length, map, get_or, take, find, bytes_eq, cond, arith, refl, sym, ap, add-one, ◌∙◌, subst, Bor}
use Rattle.std.specs.Prelude.{None, Some, ◌⊎◌, position}
use mathlib.Core.Logic.{inl, inr}
use Rattle.std.specs.Bool.{Decides}
use Rattle.std.specs.Option.{option_or, option_map, option_copied, option_to_list}
use Rattle.std.specs.List.{position_from, slice_get, filter_map, cons_option}
use Rattle.std.proofs.lemmas.Bool.{cases_Bool}
use Rattle.std.proofs.lemmas.Grind.{common_steps}
use Rattle.std.proofs.Math.Seq.{take-suc}
use Rattle.std.proofs.lemmas.List.{map_more}
use Rattle.std.proofs.lemmas.List.Folds.{find-append}
use Rattle.std.proofs.lemmas.Slice.Eq.{bytes_eq-Decides}
use Rattle.std.proofs.lemmas.Iterator.Adapters.{position_from-zero}
use Rattle.prism_names.specs.First.{Name}

pub same_bytes : (m n : Name) → bytes_eq m n ≡ true → m ≡ n
same_bytes m n e = (subst (λ b. Decides b (m ≡ n)) e (bytes_eq-Decides m n)).0 refl

pub itself : (n : Name) → bytes_eq n n ≡ true
itself n = (bytes_eq-Decides n n).1 refl

pub not_none : {X : Type 0} (x : X) → Some x ≡ None → ⊥
not_none x h = cc

pub some_same : {X : Type 0} (x y : X) → Some x ≡ Some y → x ≡ y
some_same x y h = cc

pub some_or_none : {X : Type 0} (o : Option X) → ((x : X) × (o ≡ Some x)) ⊎ (o ≡ None)
some_or_none None = inr refl
some_or_none (Some x) = inl (x, refl)

pub one_more : {X : Type 0} (xs : List X) (i : ℕ) (x : X) → i < length xs → x ≡ get_or xs i x → take (i + 1) xs
    ≡ take i xs ++ (x ∷ [])
one_more xs i x lt is = ap (λ n. take n xs) (add-one i) ∙ (take-suc xs i x lt ∙ ap (λ z. take i xs ++ (z ∷ []))
    (sym is))

-- a name that had nothing is put into the table
pub put_first : {Y : Type 0} (old new : Name → Option Y) (key : Name) (y : Y) → old key ≡ None
    → ((n : Name) → new n ≡ cond (bytes_eq key n) (Some y) (old n)) → (n : Name) → new n
    ≡ option_or (old n) (cond (bytes_eq key n) (Some y) None)
put_first old new key y absent put n = elim (cases_Bool (bytes_eq key n)) [
  | inl same ↦ put n ∙ (ap (λ b. cond b (Some y) (old n)) same
      ∙ sym (ap (λ o. option_or o (cond (bytes_eq key n) (Some y) None)) (sym (ap old (same_bytes key n same))
      ∙ absent) ∙ ap (λ b. cond b (Some y) None) same))
  | inr other ↦ put n ∙ (ap (λ b. cond b (Some y) (old n)) other
      ∙ sym (ap (λ b. option_or (old n) (cond b (Some y) None)) other ∙ nothing_more (old n)))
]
  where
    nothing_more : {Z : Type 0} (o : Option Z) → option_or o None ≡ o
    nothing_more None = refl
    nothing_more (Some z) = refl

-- a name that has something already keeps it
pub keep_first : {Y : Type 0} (old : Name → Option Y) (key : Name) (y z : Y) → old key ≡ Some z
    → (n : Name) → old n ≡ option_or (old n) (cond (bytes_eq key n) (Some y) None)
keep_first old key y z has n = elim (cases_Bool (bytes_eq key n)) [
  | inl same ↦ (let there = sym (ap old (same_bytes key n same)) ∙ has in there
      ∙ sym (ap (λ o. option_or o (cond (bytes_eq key n) (Some y) None)) there))
  | inr other ↦ sym (ap (λ b. option_or (old n) (cond b (Some y) None)) other ∙ nothing_more (old n))
]
  where
    nothing_more : {Z : Type 0} (o : Option Z) → option_or o None ≡ o
    nothing_more None = refl
    nothing_more (Some w) = refl

pub keep_all : {Y : Type 0} (o : Option Y) → o ≡ option_or o None
keep_all None = refl
keep_all (Some y) = refl

map_or : {X Y : Type 0} (f : X → Y) (o q : Option X) → option_map f (option_or o q) ≡ option_or (option_map f o)
    (option_map f q)
map_or f None q = refl
map_or f (Some x) q = refl

map_cond : {X Y : Type 0} (f : X → Y) (b : Bool) (x : X) → option_map f (cond b (Some x) None)
    ≡ cond b (Some (f x)) None
map_cond f true x = refl
map_cond f false x = refl

-- what is found among some items and one more
pub found_more : {X Y : Type 0} (f : X → Y) (p : X → Bool) (xs : List X) (i : ℕ) (x : X) → i < length xs → x
    ≡ get_or xs i x
    → option_map f (find p (take (i + 1) xs)) ≡ option_or (option_map f (find p (take i xs)))
    (cond (p x) (Some (f x)) None)
found_more f p xs i x lt is =
    ap (λ z. option_map f (find p z)) (one_more xs i x lt is) ∙ (ap (option_map f) (find-append p (take i xs) (x ∷ []))
    ∙ (map_or f (find p (take i xs)) (cond (p x) (Some x) None)
    ∙ ap (λ q. option_or (option_map f (find p (take i xs))) q) (map_cond f (p x) x)))

position-append : {X : Type 0} (p : X → Bool) (k : ℕ) (xs : List X) (x : X)
    → position_from p k (xs ++ (x ∷ [])) ≡ option_or (position_from p k xs) (cond (p x) (Some (k + length xs)) None)
position-append p k [] x = ap (λ n. cond (p x) (Some n) None) (omega arith)
position-append p k (y ∷ xs) x = elim (cases_Bool (p y)) [
  | inl passes ↦ ap (λ b. cond b (Some k) (position_from p (k + 1) (xs ++ (x ∷ [])))) passes
      ∙ sym (ap (λ b. option_or (cond b (Some k) (position_from p (k + 1) xs)) (cond (p x) (Some (k + length (y ∷ xs)))
      None)) passes)
  | inr fails ↦ ap (λ b. cond b (Some k) (position_from p (k + 1) (xs ++ (x ∷ [])))) fails
      ∙ (position-append p (k + 1) xs x ∙ (ap (λ n. option_or (position_from p (k + 1) xs) (cond (p x) (Some n) None))
      (omega arith)
      ∙ sym (ap (λ b. option_or (cond b (Some k) (position_from p (k + 1) xs)) (cond (p x) (Some (k + length (y ∷ xs)))
      None)) fails)))
]

-- the first place among some items and one more
pub position_more : {X : Type 0} (p : X → Bool) (xs : List X) (i : ℕ) (x : X) → i < length xs → x ≡ get_or xs i x
    → position p (take (i + 1) xs) ≡ option_or (position p (take i xs)) (cond (p x) (Some i) None)
position_more p xs i x lt is =
    ap (position p) (one_more xs i x lt is) ∙ (position_from-zero p (take i xs ++ (x ∷ []))
    ∙ (position-append p 0 (take i xs) x ∙ (ap (λ o. option_or o (cond (p x) (Some (0 + length (take i xs))) None))
    (sym (position_from-zero p (take i xs)))
    ∙ ap (λ n. option_or (position p (take i xs)) (cond (p x) (Some n) None)) (count i lt))))
  where
    count : (k : ℕ) → k < length xs → 0 + length (take k xs) ≡ k
    count k below = grind (arith, common_steps, below)

found_at : {X : Type 0} (p : X → Bool) (k : ℕ) (xs : List X) (i : ℕ) → position_from p k xs ≡ Some i
    → (k ≤ i) × ((j : ℕ) → k + j ≡ i → find p xs ≡ slice_get xs j)
found_at p k [] i h = absurd (not_none i (sym h))
found_at p k (y ∷ xs) i h = elim (cases_Bool (p y)) [
  | inl passes ↦
      let same : k ≡ i = some_same k i (sym (ap (λ b. cond b (Some k) (position_from p (k + 1) xs)) passes) ∙ h) in (
        omega (arith, same),
        λ j sum. ap (λ b. cond b (Some y) (find p xs)) passes
            ∙ ap (slice_get (y ∷ xs)) (first j (omega (arith, same, sum))),
      )
  | inr fails ↦
      let rest = found_at p (k + 1) xs i (sym (ap (λ b. cond b (Some k) (position_from p (k + 1) xs)) fails) ∙ h) in
      let below : k + 1 ≤ i = rest.0 in (
        omega (arith, below),
        λ j sum. ap (λ b. cond b (Some y) (find p xs)) fails
            ∙ later j (omega (arith, sum, below)) (λ n is. rest.1 n (omega (arith, is, sum))),
      )
]
  where
    first : (j : ℕ) → j ≡ 0 → zero ≡ j
    first j is = omega (arith, is)

    later : (j : ℕ) → 0 < j → ((n : ℕ) → suc n ≡ j → find p xs ≡ slice_get xs n) → find p xs ≡ slice_get (y ∷ xs) j
    later zero lt rest = absurd (omega (arith, lt))
    later (suc n) lt rest = rest n refl

found_none : {X : Type 0} (p : X → Bool) (k : ℕ) (xs : List X) → position_from p k xs ≡ None → find p xs ≡ None
found_none p k [] h = refl
found_none p k (y ∷ xs) h = elim (cases_Bool (p y)) [
  | inl passes ↦ absurd (not_none k (sym (ap (λ b. cond b (Some k) (position_from p (k + 1) xs)) passes) ∙ h))
  | inr fails ↦ ap (λ b. cond b (Some y) (find p xs)) fails
      ∙ found_none p (k + 1) xs (sym (ap (λ b. cond b (Some k) (position_from p (k + 1) xs)) fails) ∙ h)
]

-- the item at the first place is what is found
pub find-at_position : {X : Type 0} (p : X → Bool) (xs : List X) (i : ℕ) → position p xs ≡ Some i → find p xs
    ≡ slice_get xs i
find-at_position p xs i h = (found_at p 0 xs i (sym (position_from-zero p xs) ∙ h)).1 i (omega arith)

pub find-no_position : {X : Type 0} (p : X → Bool) (xs : List X) → position p xs ≡ None → find p xs ≡ None
find-no_position p xs h = found_none p 0 xs (sym (position_from-zero p xs) ∙ h)

pub map_or_cond : {X Y : Type 0} (f : X → Y) (o : Option X) (b : Bool) (x : X)
    → option_map f (option_or o (cond b (Some x) None)) ≡ option_or (option_map f o) (cond b (Some (f x)) None)
map_or_cond f o b x = map_or f o (cond b (Some x) None) ∙ ap (λ q. option_or (option_map f o) q) (map_cond f b x)

pub copied_or : {X : Type 0} (o : Option (Bor X)) (b : Bool) (x : Bor X)
    → option_copied (option_or o (cond b (Some x) None)) ≡ option_or (option_copied o) (cond b (Some x.now) None)
copied_or None true x = refl
copied_or None false x = refl
copied_or (Some y) b x = refl

-- a copy of one item more
pub pushed_more : {X Y : Type 0} (f : X → Y) (xs : List X) (i : ℕ) (x : X) (y : Y) (old new : List Y) → i < length xs
    → x ≡ get_or xs i x → y ≡ f x
    → old ≡ map f (take i xs) → new ≡ old ++ (y ∷ []) → new ≡ map f (take (i + 1) xs)
pushed_more f xs i x y old new lt is made before after =
    after ∙ (ap (λ z. z ++ (y ∷ [])) before ∙ (ap (λ z. map f (take i xs) ++ (z ∷ [])) (made ∙ ap f is)
    ∙ sym (map_more f xs i x lt)))

filtered_append : {X Y : Type 0} (h : X → Option Y) (xs : List X) (x : X) → filter_map h (xs ++ (x ∷ []))
    ≡ filter_map h xs ++ option_to_list (h x)
filtered_append h [] x = last (h x)
  where
    last : {Z : Type 0} (o : Option Z) → cons_option o [] ≡ option_to_list o
    last None = refl
    last (Some z) = refl
filtered_append h (y ∷ xs) x = elim (some_or_none (h y)) [
  | inl s ↦ ap (λ o. cons_option o (filter_map h (xs ++ (x ∷ [])))) s.1
      ∙ (ap (λ z. s.0 ∷ z) (filtered_append h xs x)
      ∙ sym (ap (λ o. cons_option o (filter_map h xs) ++ option_to_list (h x)) s.1))
  | inr none ↦ ap (λ o. cons_option o (filter_map h (xs ++ (x ∷ [])))) none
      ∙ (filtered_append h xs x ∙ sym (ap (λ o. cons_option o (filter_map h xs) ++ option_to_list (h x)) none))
]

-- what is kept of some items and one more
pub filtered_more : {W X Y : Type 0} (h : X → Option Y) (f : W → X) (ws : List W) (i : ℕ) (w : W) (old new : List Y)
    (kept : Option Y) → i < length ws → w ≡ get_or ws i w
    → kept ≡ h (f w) → old ≡ filter_map h (map f (take i ws)) → new ≡ old ++ option_to_list kept → new
    ≡ filter_map h (map f (take (i + 1) ws))
filtered_more h f ws i w old new kept lt is made before after =
    after ∙ ((λ j. before j ++ option_to_list (made j)) ∙ (sym (filtered_append h (map f (take i ws)) (f w))
    ∙ ap (filter_map h) (sym (map_more f ws i w lt ∙ ap (λ z. map f (take i ws) ++ (f z ∷ [])) (sym is)))))
