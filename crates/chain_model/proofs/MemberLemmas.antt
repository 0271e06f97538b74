-- Members of lists that are joined, mapped and filtered, and the order of such lists.
use Rattle.std.proofs.Common.{◌≡◌, ℕ, ◌+◌, ◌<◌, zero, suc, List, [], ◌∷◌, ◌++◌, Bool, true, false, cond, length, get_or, map, refl, sym, ap, ◌∙◌, subst, inl, inr, arith}
use Rattle.std.specs.Prelude.{◌⊎◌, filter, flat_map, Some, slice_get}
use Rattle.std.specs.List.{AllPairs, Contains, All, enumerate_from}
use Rattle.std.proofs.lemmas.Bool.{cases_Bool, cond-true, cond-false, true≢false}
use Rattle.std.proofs.lemmas.List.Elements.{All-cons, All-nil}
use Rattle.std.proofs.lemmas.List.Kept.{AllPairs-cons}

-- an item is one of a list
abbrev pub In : {A : Type 0} → A → List A → Type 0
In x [] = ⊥
In x (y ∷ ys) = (y ≡ x) ⊎ In x ys

-- so the list contains it, and back
pub contains-from_in : {A : Type 0} (xs : List A) (x : A) → In x xs → Contains xs x
contains-from_in [] x within = absurd within
contains-from_in (y ∷ ys) x (inl same) = (0, omega arith, same)
contains-from_in {A} (y ∷ ys) x (inr later) =
    let rest : Contains ys x = contains-from_in {A = A} ys x later in
    (suc rest.0, omega (arith, rest.1), rest.2)

in-from_at : {A : Type 0} (xs : List A) (x : A) (k : ℕ) → k < length xs → get_or xs k x ≡ x → In x xs
in-from_at [] x k within same = absurd (omega arith)
in-from_at (y ∷ ys) x zero within same = inl same
in-from_at {A} (y ∷ ys) x (suc k) within same = inr (in-from_at {A = A} ys x k (omega arith) same)

pub in-from_contains : {A : Type 0} (xs : List A) (x : A) → Contains xs x → In x xs
in-from_contains xs x within = in-from_at xs x within.0 within.1 within.2

-- members of joined lists
pub in-front : {A : Type 0} (x : A) (xs ys : List A) → In x xs → In x (xs ++ ys)
in-front x [] ys within = absurd within
in-front x (z ∷ zs) ys (inl same) = inl same
in-front {A} x (z ∷ zs) ys (inr later) = inr (in-front {A = A} x zs ys later)

pub in-back : {A : Type 0} (x : A) (xs ys : List A) → In x ys → In x (xs ++ ys)
in-back x [] ys within = within
in-back {A} x (z ∷ zs) ys within = inr (in-back {A = A} x zs ys within)

pub in-parts : {A : Type 0} (x : A) (xs ys : List A) → In x (xs ++ ys) → In x xs ⊎ In x ys
in-parts x [] ys within = inr within
in-parts x (z ∷ zs) ys (inl same) = inl (inl same)
in-parts {A} x (z ∷ zs) ys (inr later) =
    elim (in-parts {A = A} x zs ys later) [
      | inl front ↦ inl (inr front)
      | inr back ↦ inr back
    ]

-- members of a mapped list
pub in-map : {A B : Type 0} (f : A → B) (x : A) (xs : List A) → In x xs → In (f x) (map f xs)
in-map f x [] within = absurd within
in-map f x (y ∷ ys) (inl same) = inl (ap f same)
in-map {A} {B} f x (y ∷ ys) (inr later) = inr (in-map {A = A} {B = B} f x ys later)

pub from-map : {A B : Type 0} (f : A → B) (y : B) (xs : List A) → In y (map f xs) → (x : A) × In x xs × (f x ≡ y)
from-map f y [] within = absurd within
from-map f y (x ∷ xs) (inl same) = (x, inl refl, same)
from-map {A} {B} f y (x ∷ xs) (inr later) =
    let rest : (z : A) × In z xs × (f z ≡ y) = from-map {A = A} {B = B} f y xs later in
    (rest.0, inr rest.1, rest.2)

-- members of the lists that each member gives
pub in-flat_map : {A B : Type 0} (f : A → List B) (x : A) (y : B) (xs : List A) → In x xs → In y (f x) → In y (flat_map f xs)
in-flat_map f x y [] within inside = absurd within
in-flat_map {A} {B} f x y (z ∷ zs) (inl same) inside =
    in-front {A = B} y (f z) (flat_map f zs) (subst (λ (w : A). In y (f w)) (sym same) inside)
in-flat_map {A} {B} f x y (z ∷ zs) (inr later) inside =
    in-back {A = B} y (f z) (flat_map f zs) (in-flat_map {A = A} {B = B} f x y zs later inside)

pub from-flat_map : {A B : Type 0} (f : A → List B) (y : B) (xs : List A) → In y (flat_map f xs) → (x : A) × In x xs × In y (f x)
from-flat_map f y [] within = absurd within
from-flat_map {A} {B} f y (x ∷ xs) within =
    elim (in-parts {A = B} y (f x) (flat_map f xs) within) [
      | inl here ↦ (x, inl refl, here)
      | inr there ↦
          let rest : (z : A) × In z xs × In y (f z) = from-flat_map {A = A} {B = B} f y xs there in
          (rest.0, inr rest.1, rest.2)
    ]

-- members that pass a test
pub in-filter : {A : Type 0} (p : A → Bool) (x : A) (xs : List A) → In x xs → p x ≡ true → In x (filter p xs)
in-filter p x [] within passes = absurd within
in-filter {A} p x (y ∷ ys) (inl same) passes =
    subst (In x) (sym (cond-true (p y) (y ∷ filter p ys) (filter p ys) (ap p same ∙ passes))) (inl same)
in-filter {A} p x (y ∷ ys) (inr later) passes =
    elim (cases_Bool (p y)) [
      | inl kept ↦ subst (In x) (sym (cond-true (p y) (y ∷ filter p ys) (filter p ys) kept)) (inr (in-filter {A = A} p x ys later passes))
      | inr left ↦ subst (In x) (sym (cond-false (p y) (y ∷ filter p ys) (filter p ys) left)) (in-filter {A = A} p x ys later passes)
    ]

-- of a first item that is kept and those that follow
kept_first : {A : Type 0} (p : A → Bool) (x y : A) (ys : List A) → p y ≡ true → In x (y ∷ filter p ys)
    → (In x (filter p ys) → In x ys × (p x ≡ true)) → In x (y ∷ ys) × (p x ≡ true)
kept_first p x y ys kept (inl same) rest = (inl same, ap p (sym same) ∙ kept)
kept_first {A} p x y ys kept (inr later) rest = let found : In x ys × (p x ≡ true) = rest later in (inr found.0, found.1)

pub from-filter : {A : Type 0} (p : A → Bool) (x : A) (xs : List A) → In x (filter p xs) → In x xs × (p x ≡ true)
from-filter p x [] within = absurd within
from-filter {A} p x (y ∷ ys) within =
    elim (cases_Bool (p y)) [
      | inl kept ↦
          kept_first {A = A} p x y ys kept
          (subst (In x) (cond-true (p y) (y ∷ filter p ys) (filter p ys) kept) within) (from-filter {A = A} p x ys)
      | inr left ↦
          let rest : In x ys × (p x ≡ true) =
          from-filter {A = A} p x ys (subst (In x) (cond-false (p y) (y ∷ filter p ys) (filter p ys) left) within) in
          (inr rest.0, rest.1)
    ]

-- items with their numbers
pub in-numbered : {A : Type 0} (base i : ℕ) (x : A) (xs : List A) → slice_get xs i ≡ Some x → In (base + i, x) (enumerate_from base xs)
in-numbered base i x [] at = absurd (cc)
in-numbered {A} base zero x (y ∷ ys) at =
    let same : y ≡ x = cc in
    let number : base ≡ base + 0 = omega arith in
    inl (ap (λ (z : A). (base, z)) same ∙ ap (λ (n : ℕ). (n, x)) number)
in-numbered {A} base (suc i) x (y ∷ ys) at =
    let number : base + 1 + i ≡ base + suc i = omega arith in
    inr (subst (λ (n : ℕ). In (n, x) (enumerate_from (base + 1) ys)) number (in-numbered {A = A} (base + 1) i x ys at))

pub from-numbered : {A : Type 0} (base : ℕ) (p : ℕ × A) (xs : List A) → In p (enumerate_from base xs)
    → (i : ℕ) × (p.0 ≡ base + i) × (slice_get xs i ≡ Some p.1)
from-numbered base p [] within = absurd within
from-numbered base p (y ∷ ys) (inl same) =
    let number : base ≡ p.0 = ap (λ q. q.0) same in
    (0, omega (arith, number), ap (λ q. Some q.1) same)
from-numbered {A} base p (y ∷ ys) (inr later) =
    let rest : (i : ℕ) × (p.0 ≡ base + 1 + i) × (slice_get ys i ≡ Some p.1) = from-numbered {A = A} (base + 1) p ys later in
    (suc rest.0, omega (arith, rest.1), rest.2)

-- a relation holds of each item and each later one
abbrev pub Ordered : {A : Type 0} → (A → A → Type 0) → List A → Type 0
Ordered R [] = Unit {0}
Ordered R (x ∷ xs) = ((y : _) → In y xs → R x y) × Ordered R xs

all-from_in : {A : Type 0} (P : A → Type 0) (xs : List A) → ((y : A) → In y xs → P y) → All P xs
all-from_in P [] each = All-nil P
all-from_in {A} P (x ∷ xs) each = All-cons P x xs (each x (inl refl)) (all-from_in {A = A} P xs (λ y within. each y (inr within)))

pub pairs-from_ordered : {A : Type 0} (R : A → A → Type 0) (xs : List A) → Ordered R xs → AllPairs R xs
pairs-from_ordered R [] ordered = λ i j d before within. absurd (omega (arith, before, within))
pairs-from_ordered {A} R (x ∷ xs) ordered =
    AllPairs-cons R x xs (all-from_in {A = A} (R x) xs ordered.0) (pairs-from_ordered {A = A} R xs ordered.1)

-- two ordered lists, all of the first before all of the second
pub ordered-append : {A : Type 0} (R : A → A → Type 0) (xs ys : List A) → Ordered R xs → Ordered R ys
    → ((x y : A) → In x xs → In y ys → R x y) → Ordered R (xs ++ ys)
ordered-append R [] ys first second across = second
ordered-append {A} R (x ∷ xs) ys first second across = (
  λ y within. elim (in-parts {A = A} y xs ys within) [
    | inl front ↦ first.0 y front
    | inr back ↦ across x y (inl refl) back
  ],
  ordered-append {A = A} R xs ys first.1 second (λ z y inside there. across z y (inr inside) there),
)

-- an ordered list, mapped
pub ordered-map : {A B : Type 0} (R : A → A → Type 0) (S : B → B → Type 0) (f : A → B) (xs : List A)
    → ((x y : A) → R x y → S (f x) (f y)) → Ordered R xs → Ordered S (map f xs)
ordered-map R S f [] kept ordered = tt
ordered-map {A} {B} R S f (x ∷ xs) kept ordered = (
  λ y within.
      let from : (z : A) × In z xs × (f z ≡ y) = from-map {A = A} {B = B} f y xs within in
      subst (S (f x)) from.2 (kept x from.0 (ordered.0 from.0 from.1)),
  ordered-map {A = A} {B = B} R S f xs kept ordered.1,
)

-- what is kept of an ordered list
pub ordered-filter : {A : Type 0} (R : A → A → Type 0) (p : A → Bool) (xs : List A) → Ordered R xs → Ordered R (filter p xs)
ordered-filter R p [] ordered = tt
ordered-filter {A} R p (x ∷ xs) ordered =
    elim (cases_Bool (p x)) [
      | inl kept ↦
          subst (Ordered R) (sym (cond-true (p x) (x ∷ filter p xs) (filter p xs) kept))
          (λ y within. ordered.0 y (from-filter {A = A} p y xs within).0, ordered-filter {A = A} R p xs ordered.1)
      | inr left ↦
          subst (Ordered R) (sym (cond-false (p x) (x ∷ filter p xs) (filter p xs) left)) (ordered-filter {A = A} R p xs ordered.1)
    ]

-- the ordered lists that the items of an ordered list give, where all of an earlier one stand before all of a later one
pub ordered-flat_map : {A B : Type 0} (R : A → A → Type 0) (S : B → B → Type 0) (f : A → List B) (xs : List A)
    → ((x : A) → In x xs → Ordered S (f x))
    → ((x y : A) (a b : B) → R x y → In a (f x) → In b (f y) → S a b) → Ordered R xs → Ordered S (flat_map f xs)
ordered-flat_map R S f [] each across ordered = tt
ordered-flat_map {A} {B} R S f (x ∷ xs) each across ordered =
    ordered-append {A = B} S (f x) (flat_map f xs) (each x (inl refl))
    (ordered-flat_map {A = A} {B = B} R S f xs (λ y within. each y (inr within)) across ordered.1)
    (λ a b here there.
    let from : (y : A) × In y xs × In b (f y) = from-flat_map {A = A} {B = B} f b xs there in
    across x from.0 a b (ordered.0 from.0 from.1) here from.2)
