-- The variables and commands of modules, as they stand in the text with the numbers of their modules; and small numbers.
use Rattle.std.proofs.Common.{◌≡◌, ℕ, ◌+◌, ◌<◌, ◌≤◌, List, [], ◌∷◌, ◌++◌, Bool, true, false, All, length, map, refl, ap, arith, nat_lt}
use Rattle.std.specs.Prelude.{◌||◌, flat_map}
use Rattle.std.specs.List.{enumerate_from, AllPairs}
use Rattle.std.proofs.lemmas.List.Elements.{All-nil, All-cons, All-append}
use Rattle.std.proofs.lemmas.List.Kept.{AllPairs-cons}
use Rattle.prism_syntax.specs.declared.models.Module.{Module}
use Rattle.typed_trees.specs.Leaves.{shown}

-- a number below 2^32 - 1 is shown as it is
pub shown-small : (n : ℕ) → n < 4294967295 → shown n ≡ n
shown-small n lt = grind (arith, lt)

-- a list that is seen as another, and that as a third
pub map-map : {X Y Z : Type 0} (f : Y → Z) (g : X → Y) (xs : List X) → map f (map g xs) ≡ map (λ x. f (g x)) xs
map-map f g [] = refl
map-map f g (x ∷ xs) = ap (λ rest. f (g x) ∷ rest) (map-map f g xs)

-- not more than a limit
pub few : (most n : ℕ) → nat_lt most n ≡ false → n ≤ most
few most n h = grind (arith, h)

-- neither of two tests holds
pub neither-holds : (a b : Bool) → (a || b) ≡ false → (a ≡ false) × (b ≡ false)
neither-holds true b none = absurd (let never : ⊥ = cc in never)
neither-holds false b none = (refl, none)

module _ {X Y : Type 0} (h : Module → List X) (g : ℕ → X → Y) where
  -- what modules declare, with their numbers from here on
  abbrev pub rows : ℕ → List Module → List Y
  rows from modules = flat_map (λ m. map (λ x. g m.0 x) (h m.1)) (enumerate_from from modules)

  -- what holds of all that a module of a number declares
  pub rows-All : (Q : Y → Type 0) (low high : ℕ) → ((number : ℕ) (x : X) → low ≤ number → number < high → Q (g number x)) → (from : ℕ) (modules : List Module)
      → low ≤ from → from + length modules ≤ high → All Q (rows from modules)
  rows-All Q low high each from [] above below = All-nil Q
  rows-All Q low high each from (m ∷ modules) above below =
      All-append Q (map (λ x. g from x) (h m)) (rows (from + 1) modules) (own (h m))
      (rows-All Q low high each (from + 1) modules (omega (arith, above)) (omega (arith, below)))
    where
      own : (xs : List X) → All Q (map (λ x. g from x) xs)
      own [] = All-nil Q
      own (x ∷ xs) = All-cons Q (g from x) (map (λ z. g from z) xs) (each from x above (omega (arith, below))) (own xs)

  -- what holds of two where the first's module doesn't come after the second's
  pub rows-Pairs : (R : Y → Y → Type 0) → ((i j : ℕ) (x z : X) → i ≤ j → R (g i x) (g j z)) → (from : ℕ) (modules : List Module) → AllPairs R (rows from modules)
  rows-Pairs R each from [] = λ i j d lt within. absurd (omega (arith, within))
  rows-Pairs R each from (m ∷ modules) = block (rows-Pairs R each (from + 1) modules) (h m)
    where
      later : (x : X) → All (R (g from x)) (rows (from + 1) modules)
      later x = rows-All (R (g from x)) (from + 1) (from + 1 + length modules) (λ number z above below. each from number x z (omega (arith, above))) (from + 1) modules
          (omega arith) (omega arith)

      same : (x : X) (xs : List X) → All (R (g from x)) (map (λ z. g from z) xs)
      same x [] = All-nil (R (g from x))
      same x (z ∷ xs) = All-cons (R (g from x)) (g from z) (map (λ w. g from w) xs) (each from from x z (omega arith)) (same x xs)

      block : AllPairs R (rows (from + 1) modules) → (xs : List X) → AllPairs R (map (λ z. g from z) xs ++ rows (from + 1) modules)
      block others [] = others
      block others (x ∷ xs) =
          AllPairs-cons R (g from x) (map (λ z. g from z) xs ++ rows (from + 1) modules)
          (All-append (R (g from x)) (map (λ z. g from z) xs) (rows (from + 1) modules) (same x xs) (later x)) (block others xs)
