-- Where nothing is told of a list, nothing is told of each of it.
use Rattle.std.proofs.Common.{◌≡◌, ℕ, suc, ◌+◌, arith, List, [], ◌∷◌, Option, Bool, true, false, All, map, refl, sym, ap, ◌∙◌}
use Rattle.std.specs.Prelude.{None, Some, ◌&&◌, ◌||◌, option_map, if◌then◌else◌}
use mathlib.Core.Logic.{inl, inr}
use Rattle.std.specs.Option.{option_or}
use Rattle.std.specs.List.{enumerate_from, list_all, list_any}
use Rattle.std.proofs.lemmas.Bool.{cases_Bool}
use Rattle.std.proofs.lemmas.List.Elements.{All-nil, All-cons}
use Rattle.prism_names.specs.First.{first_some}

-- of two neither is there
pub neither : {Y : Type 0} (a b : Option Y) → option_or a b ≡ None → (a ≡ None) × (b ≡ None)
neither None b none = (refl, none)
neither (Some y) b none = absurd (let never : ⊥ = cc in never)

-- both hold
pub both : (a b : Bool) → (a && b) ≡ true → (a ≡ true) × (b ≡ true)
both true b holds = (refl, holds)
both false b holds = absurd (let never : ⊥ = cc in never)

-- what is there where a test fails is not, so the test holds
pub passes : {Y : Type 0} (b : Bool) (y : Y) → (if b then None else Some y) ≡ None → b ≡ true
passes true y none = refl
passes false y none = absurd (let never : ⊥ = cc in never)

pub fails : {Y : Type 0} (b : Bool) (y : Y) → (if b then Some y else None) ≡ None → b ≡ false
fails true y none = absurd (let never : ⊥ = cc in never)
fails false y none = refl

pub unmapped : {X Y : Type 0} (g : X → Y) (o : Option X) → option_map g o ≡ None → o ≡ None
unmapped g None none = refl
unmapped g (Some x) none = absurd (let never : ⊥ = cc in never)

-- nothing is told of each
pub each-none : {X Y : Type 0} (f : X → Option Y) (xs : List X) → first_some f xs ≡ None → All (λ x. f x ≡ None) xs
each-none f [] none = All-nil (λ x. f x ≡ None)
each-none f (x ∷ xs) none =
    let two = neither (f x) (first_some f xs) none in
    All-cons (λ z. f z ≡ None) x xs two.0 (each-none f xs two.1)

-- nothing is told of each that is numbered
pub each-numbered : {X Y : Type 0} (f : ℕ × X → Option Y) (P : X → Type 0) → ((k : ℕ) (x : X) → f (k, x) ≡ None → P x) → (from : ℕ) (xs : List X)
    → first_some f (enumerate_from from xs) ≡ None → All P xs
each-numbered f P each from [] none = All-nil P
each-numbered f P each from (x ∷ xs) none =
    let two = neither (f (from, x)) (first_some f (enumerate_from (from + 1) xs)) none in
    All-cons P x xs (each from x two.0) (each-numbered f P each (from + 1) xs two.1)

-- a test holds of each
pub each-passes : {X : Type 0} (p : X → Bool) (xs : List X) → list_all p xs ≡ true → All (λ x. p x ≡ true) xs
each-passes p [] holds = All-nil (λ x. p x ≡ true)
each-passes p (x ∷ xs) holds =
    let two = both (p x) (list_all p xs) holds in
    All-cons (λ z. p z ≡ true) x xs two.0 (each-passes p xs two.1)

-- a test fails of each
pub each-fails : {X : Type 0} (p : X → Bool) (xs : List X) → list_any p xs ≡ false → All (λ x. p x ≡ false) xs
each-fails p [] none = All-nil (λ x. p x ≡ false)
each-fails p (x ∷ xs) none = elim (cases_Bool (p x)) [
  | inl holds ↦ absurd (let wrong : true ≡ false = sym (ap (λ b. b || list_any p xs) holds) ∙ none in let never : ⊥ = cc in never)
  | inr other ↦ All-cons (λ z. p z ≡ false) x xs other (each-fails p xs (sym (ap (λ b. b || list_any p xs) other) ∙ none))
]

-- what holds of each of a list that is seen as another holds of each of it
pub All-unmap : {X Y : Type 0} (P : Y → Type 0) (g : X → Y) (xs : List X) → All P (map g xs) → All (λ x. P (g x)) xs
All-unmap P g [] all = All-nil (λ x. P (g x))
All-unmap P g (x ∷ xs) all = All-cons (λ z. P (g z)) x xs (all 0 (g x) (omega arith)) (All-unmap P g xs (λ k d lt. all (suc k) d (omega (arith, lt))))

-- two things that hold of each
pub All-both : {X : Type 0} (P Q : X → Type 0) (xs : List X) → All P xs → All Q xs → All (λ x. P x × Q x) xs
All-both P Q xs one two k d lt = (one k d lt, two k d lt)
