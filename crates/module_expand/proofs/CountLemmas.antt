-- How often names are declared as what.
use Rattle.std.proofs.Common.{◌≡◌, ℕ, ◌+◌, ◌<◌, List, [], ◌∷◌, ◌++◌, Option, Bool, true, false, ◌&&◌, length, get_or, take, min, count_by, unwrap_or, is_some, bytes_eq, cond, arith, refl, sym, ap, ◌∙◌, nat_lt}
use Rattle.std.specs.Prelude.{None, Some}
use mathlib.Core.Logic.{inl, inr}
use Rattle.std.specs.Option.{option_or}
use Rattle.std.specs.List.{filter_map, cons_option, flat_map}
use Rattle.std.proofs.lemmas.Bool.{cases_Bool}
use Rattle.std.proofs.lemmas.Grind.{common_steps, flat_map-append}
use Rattle.std.proofs.lemmas.List.{append-nil}
use Rattle.prism_names.specs.First.{Name}
use Rattle.module_expand.specs.declared.declarations.Kind.{Kind}
use Rattle.module_expand.specs.declared.declarations.Kind.TheVariants as kind
use Rattle.module_expand.specs.declared.repeated.Times.{Times}
use Rattle.module_expand.specs.Renamed.{right_of}
use Rattle.module_expand.specs.Duplicates.{Declaration, values, same_kind, is_same, is_repeated}
use Rattle.module_expand.specs.Times.{times, never, more_times, Counts, AddsTimes, Adds, AreCounted, is_counted_twice}
use Rattle.module_expand.proofs.FirstLemmas.{same_bytes, itself, one_more}

more_as : (j k : Kind) (more : ℕ) (t : Times) → min 2 (times k (more_times j more t))
    ≡ min 2 (times k t + cond (same_kind j k) more 0)
more_as kind.Value kind.Value more t = omega arith
more_as kind.Value kind.Module more t = omega arith
more_as kind.Value kind.Label more t = omega arith
more_as kind.Module kind.Value more t = omega arith
more_as kind.Module kind.Module more t = omega arith
more_as kind.Module kind.Label more t = omega arith
more_as kind.Label kind.Value more t = omega arith
more_as kind.Label kind.Module more t = omega arith
more_as kind.Label kind.Label more t = omega arith

and_true : (b : Bool) → (b && true) ≡ b
and_true true = refl
and_true false = refl

and_false : (b : Bool) → (b && false) ≡ false
and_false true = refl
and_false false = refl

no_more : (x : ℕ) → min 2 x ≡ min 2 (x + 0)
no_more x = omega arith

-- a declaration was counted so often more
pub adds_times : (old new : Counts) (j : Kind) (m : Name) (more : ℕ) (before : Times) → before ≡ unwrap_or (old m) never
    → ((n : Name) → new n ≡ cond (bytes_eq m n) (Some (more_times j more before)) (old n))
    → AddsTimes old new (j, m) more
adds_times old new j m more before is put k n = elim (cases_Bool (bytes_eq m n)) [
  | inl same ↦
      let whole : before ≡ unwrap_or (old n) never =
      is ∙ ap (λ z. unwrap_or (old z) never) (same_bytes m n same) in
      let one : same_kind j k ≡ is_same (k, n) (j, m) =
      sym (ap (λ b. same_kind j k && b) same ∙ and_true (same_kind j k)) in
      ap (λ o. min 2 (times k (unwrap_or o never)))
      (put n ∙ ap (λ b. cond b (Some (more_times j more before)) (old n)) same)
      ∙ (more_as j k more before ∙ (λ i. min 2 (times k (whole i) + cond (one i) more 0)))
  | inr other ↦
      let none : false ≡ is_same (k, n) (j, m) =
      sym (ap (λ b. same_kind j k && b) other ∙ and_false (same_kind j k)) in
      ap (λ o. min 2 (times k (unwrap_or o never)))
      (put n ∙ ap (λ b. cond b (Some (more_times j more before)) (old n)) other)
      ∙ (no_more (times k (unwrap_or (old n) never))
      ∙ ap (λ b. min 2 (times k (unwrap_or (old n) never) + cond b more 0)) none)
]

zero_plus : (n : ℕ) → 0 + n ≡ n
zero_plus n = omega arith

count_more : {X : Type 0} (test : X → Bool) (front : List X) (x : X) → count_by test (front ++ (x ∷ []))
    ≡ count_by test front + cond (test x) 1 0
count_more test front x = grind (arith, common_steps)

count_one : {X : Type 0} (test : X → Bool) (x : X) → cond (test x) 1 0 ≡ count_by test (x ∷ [])
count_one test x = sym (count_more test [] x ∙ zero_plus (cond (test x) 1 0))

-- one declaration
pub adds_one : (old new : Counts) (d : Declaration) → AddsTimes old new d 1 → Adds old new (d ∷ [])
adds_one old new d one k n = one k n
    ∙ ap (λ c. min 2 (times k (unwrap_or (old n) never) + c)) (count_one (is_same (k, n)) d)

count_append : {X : Type 0} (test : X → Bool) (xs ys : List X) → count_by test (xs ++ ys)
    ≡ count_by test xs + count_by test ys
count_append test xs ys = grind (arith, common_steps)

counted_both : (a b c x y z : ℕ) → min 2 b ≡ min 2 (a + x) → min 2 c ≡ min 2 (b + y) → z ≡ x + y
    → min 2 c ≡ min 2 (a + z)
counted_both a b c x y z one two whole = omega (arith, one, two, whole)

pub adds_both : (a b c : Counts) (xs ys : List Declaration) → Adds a b xs → Adds b c ys → Adds a c (xs ++ ys)
adds_both a b c xs ys one two k n = counted_both (times k (unwrap_or (a n) never)) (times k (unwrap_or (b n) never))
    (times k (unwrap_or (c n) never)) (count_by (is_same (k, n)) xs) (count_by (is_same (k, n)) ys)
    (count_by (is_same (k, n)) (xs ++ ys)) (one k n) (two k n) (count_append (is_same (k, n)) xs ys)

-- what stands for some items and one more
pub flat_one : {X Y : Type 0} (f : X → List Y) (xs : List X) (i : ℕ) (x : X) → i < length xs → x ≡ get_or xs i x
    → flat_map f (take (i + 1) xs) ≡ flat_map f (take i xs) ++ f x
flat_one f xs i x lt is = ap (flat_map f) (one_more xs i x lt is) ∙ (flat_map-append f (take i xs) (x ∷ [])
    ∙ ap (λ z. flat_map f (take i xs) ++ z) (append-nil (f x)))

-- what is counted beside an empty table
pub adds_from_empty : (empty new : Counts) (all : List Declaration) → ((n : Name) → empty n ≡ None) → Adds empty new all
    → Adds (λ _. None) new all
adds_from_empty empty new all none adds k n = adds k n
    ∙ ap (λ o. min 2 (times k (unwrap_or o never) + count_by (is_same (k, n)) all)) (none n)

-- no pair gives no names
pub adds_nothing : (a : Counts) (ms : List Name) → Adds a a (values (filter_map (right_of []) ms))
adds_nothing a ms k n = no_more (times k (unwrap_or (a n) never))
    ∙ ap (λ ds. min 2 (times k (unwrap_or (a n) never) + count_by (is_same (k, n)) ds)) (nothing ms)
  where
    nothing : (ns : List Name) → [] ≡ values (filter_map (right_of []) ns)
    nothing [] = refl
    nothing (m ∷ ns) = nothing ns

-- nothing is counted yet
pub adds_none : (a : Counts) → Adds a a []
adds_none a k n = no_more (times k (unwrap_or (a n) never))

-- the declarations of one item more
pub adds_more : {X : Type 0} (f : X → List Declaration) (xs : List X) (i : ℕ) (x : X) (a old new : Counts)
    → i < length xs → x ≡ get_or xs i x → Adds a old (flat_map f (take i xs)) → Adds old new (f x)
    → Adds a new (flat_map f (take (i + 1) xs))
adds_more f xs i x a old new lt is far one k n =
    adds_both a old new (flat_map f (take i xs)) (f x) far one k n
    ∙ ap (λ ds. min 2 (times k (unwrap_or (a n) never) + count_by (is_same (k, n)) ds)) (sym (flat_one f xs i x lt is))

never_times : (k : Kind) → times k never ≡ 0
never_times kind.Value = refl
never_times kind.Module = refl
never_times kind.Label = refl

twice_same : (found z counted : ℕ) → z ≡ 0 → min 2 found ≡ min 2 (z + counted) → nat_lt 1 found ≡ nat_lt 1 counted
twice_same found z counted zero is = elim (cases_Bool (nat_lt 1 found)) [
  | inl more ↦ grind (arith, zero, is, more)
  | inr fewer ↦ grind (arith, zero, is, fewer)
]

-- where all declarations are counted, those that were counted more than once are those that are repeated
pub same_twice : (counts : Counts) (all : List Declaration) → Adds (λ _. None) counts all
    → is_counted_twice counts ≡ is_repeated all
same_twice counts all adds i d = twice_same (times d.0 (unwrap_or (counts d.1) never)) (times d.0 never)
    (count_by (is_same d) all) (never_times d.0) (adds d.0 d.1) i

-- one name more is counted
pub name_counted : (front more : List Name) (m : Name) (old new : Name → Option ℕ) (before : ℕ) → more ≡ front ++ (m ∷ [])
    → AreCounted front old → before ≡ unwrap_or (old m) 0
    → ((n : Name) → new n ≡ cond (bytes_eq m n) (Some (before + 1)) (old n)) → AreCounted more new
name_counted front more m old new before is far so put n = elim (cases_Bool (bytes_eq m n)) [
  | inl same ↦
      ap (λ o. unwrap_or o 0) (put n ∙ ap (λ b. cond b (Some (before + 1)) (old n)) same)
      ∙ (ap (λ c. c + 1) (so ∙ (ap (λ z. unwrap_or (old z) 0) (same_bytes m n same) ∙ far n))
      ∙ sym (counts ∙ ap (λ b. count_by named front + cond b 1 0) same))
  | inr other ↦
      ap (λ o. unwrap_or o 0) (put n ∙ ap (λ b. cond b (Some (before + 1)) (old n)) other)
      ∙ (far n ∙ (plus_zero (count_by named front)
      ∙ sym (counts ∙ ap (λ b. count_by named front + cond b 1 0) other)))
]
  where
    named : Name → Bool
    named z = bytes_eq z n

    plus_zero : (x : ℕ) → x ≡ x + 0
    plus_zero x = omega arith

    counts : count_by named more ≡ count_by named front + cond (bytes_eq m n) 1 0
    counts = ap (count_by named) is ∙ (count_append named front (m ∷ [])
        ∙ ap (λ c. count_by named front + c) (sym (count_one named m)))

pub count_first : {X : Type 0} (test : X → Bool) (x : X) (xs : List X) → count_by test (x ∷ xs)
    ≡ cond (test x) 1 0 + count_by test xs
count_first test x xs = count_append test (x ∷ []) xs ∙ ap (λ c. c + count_by test xs) (sym (count_one test x))

one_new : (b : Bool) (c d m : ℕ) → d ≡ c + cond b m 0 → cond b 1 0 + d ≡ c + cond b (1 + m) 0
one_new true c d m is = omega (arith, is)
one_new false c d m is = omega (arith, is)

none_new : (b : Bool) → 0 ≡ 0 + cond b 0 0
none_new true = refl
none_new false = refl

other_way : (m n : Name) → bytes_eq m n ≡ false → bytes_eq n m ≡ false
other_way m n differ = elim (cases_Bool (bytes_eq n m)) [
  | inl same ↦ absurd (let agree : bytes_eq m n ≡ true =
      ap (λ z. bytes_eq z n) (sym (same_bytes n m same)) ∙ itself n in
      let both : true ≡ false = sym agree ∙ differ in cc)
  | inr other ↦ other
]

plus : (c d m e : ℕ) → d ≡ c + m → e + d ≡ e + c + m
plus c d m e is = omega (arith, is)

one_kept : (test : Declaration → Bool) (o : Option Name) (xs ys : List Name) (m : ℕ)
    → count_by test (values xs) ≡ count_by test (values ys) + m
    → count_by test (values (cons_option o xs)) ≡ count_by test (values (cons_option o ys)) + m
one_kept test None xs ys m is = is
one_kept test (Some x) xs ys m is = count_first test (kind.Value, x) (values xs)
    ∙ (plus (count_by test (values ys)) (count_by test (values xs)) m (cond (test (kind.Value, x)) 1 0) is
    ∙ ap (λ c. c + m) (sym (count_first test (kind.Value, x) (values ys))))

-- a name that had no new one is given one
module _ (h k : Name → Option Name) (left right : Name)
    (next : (n : Name) → k n ≡ option_or (h n) (cond (bytes_eq left n) (Some right) None)) where
  kept : (o : Option Name) → option_or o None ≡ o
  kept None = refl
  kept (Some z) = refl

  elsewhere : (n : Name) → bytes_eq left n ≡ false → k n ≡ h n
  elsewhere n other = next n ∙ (ap (λ b. option_or (h n) (cond b (Some right) None)) other ∙ kept (h n))

  here : (n : Name) → h left ≡ None → bytes_eq left n ≡ true → k n ≡ Some right
  here n none same = next n ∙ (ap (λ b. option_or (h n) (cond b (Some right) None)) same
      ∙ ap (λ o. option_or o (Some right)) (ap h (sym (same_bytes left n same)) ∙ none))

  given : (test : Declaration → Bool) → h left ≡ None → (ms : List Name)
      → count_by test (values (filter_map k ms)) ≡ count_by test (values (filter_map h ms))
      + cond (test (kind.Value, right)) (count_by (λ m. bytes_eq m left) ms) 0
  given test none [] = none_new (test (kind.Value, right))
  given test none (m ∷ ms) = elim (cases_Bool (bytes_eq left m)) [
    | inl same ↦
        let is : left ≡ m = same_bytes left m same in
        let named : bytes_eq m left ≡ true = ap (λ z. bytes_eq z left) (sym is) ∙ itself left in
        ap (λ o. count_by test (values (cons_option o (filter_map k ms)))) (here m none same)
        ∙ (count_first test (kind.Value, right) (values (filter_map k ms))
        ∙ (one_new (test (kind.Value, right)) (count_by test (values (filter_map h ms)))
        (count_by test (values (filter_map k ms))) (count_by (λ z. bytes_eq z left) ms) (given test none ms)
        ∙ (λ i. count_by test (values (cons_option (sym (ap h (sym is) ∙ none) i) (filter_map h ms)))
        + cond (test (kind.Value, right)) (sym (count_first (λ z. bytes_eq z left) m ms
        ∙ ap (λ b. cond b 1 0 + count_by (λ z. bytes_eq z left) ms) named) i) 0)))
    | inr other ↦
        let not : bytes_eq m left ≡ false = other_way left m other in
        let skipped : count_by (λ z. bytes_eq z left) (m ∷ ms) ≡ count_by (λ z. bytes_eq z left) ms =
        count_first (λ z. bytes_eq z left) m ms ∙ (ap (λ b. cond b 1 0 + count_by (λ z. bytes_eq z left) ms) not ∙ zero_plus (count_by (λ z. bytes_eq z left) ms)) in
        ap (λ o. count_by test (values (cons_option o (filter_map k ms)))) (elsewhere m other)
        ∙ (one_kept test (h m) (filter_map k ms) (filter_map h ms)
        (cond (test (kind.Value, right)) (count_by (λ z. bytes_eq z left) ms) 0) (given test none ms)
        ∙ ap (λ c. count_by test (values (cons_option (h m) (filter_map h ms)))
        + cond (test (kind.Value, right)) c 0) (sym skipped))
  ]

  same_still : (x : Name) → h left ≡ Some x → (n : Name) → k n ≡ h n
  same_still x some n = elim (cases_Bool (bytes_eq left n)) [
    | inl same ↦
        let there : h n ≡ Some x = ap h (sym (same_bytes left n same)) ∙ some in
        next n ∙ (ap (λ o. option_or o (cond (bytes_eq left n) (Some right) None)) there ∙ sym there)
    | inr other ↦ elsewhere n other
  ]

plus_none : (b : Bool) (c : ℕ) → c ≡ c + cond b 0 0
plus_none true c = omega arith
plus_none false c = omega arith

-- the new names by one pair more are counted
pub new_name_counted : (h k : Name → Option Name) (left right : Name) (more : ℕ) (told : Bool) (ms : List Name)
    (a old new : Counts) → ((n : Name) → k n ≡ option_or (h n) (cond (bytes_eq left n) (Some right) None))
    → told ≡ is_some (h left) → more ≡ cond told 0 (count_by (λ z. bytes_eq z left) ms)
    → Adds a old (values (filter_map h ms)) → AddsTimes old new (kind.Value, right) more
    → Adds a new (values (filter_map k ms))
new_name_counted h k left right more told ms a old new next is times_is far one q n =
    counted_both (times q (unwrap_or (a n) never)) (times q (unwrap_or (old n) never)) (times q (unwrap_or (new n) never))
    (count_by (is_same (q, n)) (values (filter_map h ms)))
    (cond (is_same (q, n) (kind.Value, right)) more 0) (count_by (is_same (q, n)) (values (filter_map k ms)))
    (far q n) (one q n) whole
  where
    cases : (o : Option Name) → h left ≡ o
        → count_by (is_same (q, n)) (values (filter_map k ms))
        ≡ count_by (is_same (q, n)) (values (filter_map h ms))
        + cond (is_same (q, n) (kind.Value, right)) more 0
    cases None none =
        let m : more ≡ count_by (λ z. bytes_eq z left) ms =
        times_is ∙ ap (λ b. cond b 0 (count_by (λ z. bytes_eq z left) ms)) (is ∙ ap is_some none) in
        given h k left right next (is_same (q, n)) none ms
        ∙ ap (λ c. count_by (is_same (q, n)) (values (filter_map h ms))
        + cond (is_same (q, n) (kind.Value, right)) c 0) (sym m)
    cases (Some x) some =
        let m : more ≡ 0 =
        times_is ∙ ap (λ b. cond b 0 (count_by (λ z. bytes_eq z left) ms)) (is ∙ ap is_some some) in
        let same : k ≡ h = λ i z. same_still h k left right next x some z i in
        ap (λ f. count_by (is_same (q, n)) (values (filter_map f ms))) same
        ∙ (plus_none (is_same (q, n) (kind.Value, right)) (count_by (is_same (q, n))
        (values (filter_map h ms)))
        ∙ ap (λ c. count_by (is_same (q, n)) (values (filter_map h ms))
        + cond (is_same (q, n) (kind.Value, right)) c 0) (sym m))

    whole : count_by (is_same (q, n)) (values (filter_map k ms))
        ≡ count_by (is_same (q, n)) (values (filter_map h ms))
        + cond (is_same (q, n) (kind.Value, right)) more 0
    whole = cases (h left) refl
