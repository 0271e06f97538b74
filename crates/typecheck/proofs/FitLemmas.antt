-- Whether all of a list fit, as one item more is looked at.
use Rattle.std.proofs.Common.{◌≡◌, ℕ, ◌+◌, ◌<◌, List, [], ◌∷◌, ◌++◌, Bool, true, false, ◌&&◌, length, get_or, take, drop, refl, sym, ap, ◌∙◌}
use Rattle.std.specs.List.{list_all}
use Rattle.std.proofs.lemmas.List.{take-append-drop}
use Rattle.const_eval.proofs.FirstLemmas.{one_more}

and-assoc : (a b c : Bool) → (a && (b && c)) ≡ ((a && b) && c)
and-assoc true b c = refl
and-assoc false b c = refl

and-true : (a : Bool) → (a && true) ≡ a
and-true true = refl
and-true false = refl

all-append : {X : Type 0} (f : X → Bool) (xs ys : List X) → list_all f (xs ++ ys) ≡ (list_all f xs && list_all f ys)
all-append f [] ys = refl
all-append f (x ∷ xs) ys = ap (λ b. f x && b) (all-append f xs ys) ∙ and-assoc (f x) (list_all f xs) (list_all f ys)

module _ {X : Type 0} (xs : List X) (i : ℕ) (x : X) (lt : i < length xs) (is : x ≡ get_or xs i x) (f : X → Bool) (far : list_all f (take i xs) ≡ true) where
  -- those so far fit: whether one more does
  pub fits_more : list_all f (take (i + 1) xs) ≡ f x
  fits_more =
      ap (list_all f) (one_more xs i x lt is) ∙ (all-append f (take i xs) (x ∷ []) ∙ (ap (λ b. b && list_all f (x ∷ [])) far ∙ and-true (f x)))

  -- where this one doesn't fit, not all do
  pub fails_here : f x ≡ false → list_all f xs ≡ false
  fails_here fails =
      ap (list_all f) (sym (take-append-drop (i + 1) xs)) ∙ (all-append f (take (i + 1) xs) (drop (i + 1) xs)
      ∙ ap (λ b. b && list_all f (drop (i + 1) xs)) (fits_more ∙ fails))
