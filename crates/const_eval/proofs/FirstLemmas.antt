-- The first of a list of which something holds, or of which something is told.
use Rattle.std.proofs.Common.{◌≡◌, ℕ, ◌+◌, ◌<◌, List, [], ◌∷◌, ◌++◌, Option, Bool, true, false, length, get_or, take, drop, find, cond, refl, sym, ap, ◌∙◌}
use Rattle.std.specs.Prelude.{None, Some}
use Rattle.std.specs.Option.{option_or}
use Rattle.std.proofs.lemmas.List.{take_more, take-append-drop}
use Rattle.std.proofs.lemmas.List.Folds.{find-append}
use Rattle.prism_names.specs.First.{first_some}

module _ {X : Type 0} (xs : List X) (i : ℕ) (x : X) (lt : i < length xs) (is : x ≡ get_or xs i x) where
  -- one item more
  pub one_more : take (i + 1) xs ≡ take i xs ++ (x ∷ [])
  one_more = take_more xs i x lt ∙ ap (λ z. take i xs ++ (z ∷ [])) (sym is)

  -- of none so far, and not of this one
  pub none_more : (p : X → Bool) → find p (take i xs) ≡ None → p x ≡ false → find p (take (i + 1) xs) ≡ None
  none_more p far fails =
      ap (find p) one_more ∙ (find-append p (take i xs) (x ∷ []) ∙ (ap (λ o. option_or o (find p (x ∷ []))) far ∙ ap (λ b. cond b (Some x) None) fails))

  -- of none so far, but of this one
  pub found_here : (p : X → Bool) → find p (take i xs) ≡ None → p x ≡ true → find p xs ≡ Some x
  found_here p far holds =
      ap (find p) (sym (take-append-drop (i + 1) xs)) ∙ (find-append p (take (i + 1) xs) (drop (i + 1) xs)
      ∙ ap (λ o. option_or o (find p (drop (i + 1) xs)))
      (ap (find p) one_more ∙ (find-append p (take i xs) (x ∷ []) ∙ (ap (λ o. option_or o (find p (x ∷ []))) far ∙ ap (λ b. cond b (Some x) None) holds))))

option_or-assoc : {Y : Type 0} (a b c : Option Y) → option_or a (option_or b c) ≡ option_or (option_or a b) c
option_or-assoc None b c = refl
option_or-assoc (Some y) b c = refl

pub first_some-append : {X Y : Type 0} (f : X → Option Y) (xs ys : List X) → first_some f (xs ++ ys) ≡ option_or (first_some f xs) (first_some f ys)
first_some-append f [] ys = refl
first_some-append f (x ∷ xs) ys = ap (option_or (f x)) (first_some-append f xs ys) ∙ option_or-assoc (f x) (first_some f xs) (first_some f ys)

option_or-none : {Y : Type 0} (a : Option Y) → option_or a None ≡ a
option_or-none None = refl
option_or-none (Some y) = refl

module _ {X Y : Type 0} (xs : List X) (i : ℕ) (x : X) (lt : i < length xs) (is : x ≡ get_or xs i x) (f : X → Option Y) (far : first_some f (take i xs) ≡ None) where
  -- nothing is told of those so far: what is told of one more
  pub told_more : first_some f (take (i + 1) xs) ≡ f x
  told_more =
      ap (first_some f) (one_more xs i x lt is) ∙ (first_some-append f (take i xs) (x ∷ []) ∙ (ap (λ o. option_or o (first_some f (x ∷ []))) far ∙ option_or-none (f x)))

  -- what is told of this one is told of all
  pub told_here : (y : Y) → f x ≡ Some y → first_some f xs ≡ Some y
  told_here y tells =
      ap (first_some f) (sym (take-append-drop (i + 1) xs)) ∙ (first_some-append f (take (i + 1) xs) (drop (i + 1) xs)
      ∙ ap (λ o. option_or o (first_some f (drop (i + 1) xs))) (told_more ∙ tells))
