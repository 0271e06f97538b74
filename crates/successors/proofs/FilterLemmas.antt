-- Items that pass a test: in which order two tests are made, and which item is the one of an index.
use Rattle.std.proofs.Common.{◌≡◌, ℕ, ◌<◌, List, [], ◌∷◌, length, drop, Bool, true, false, cond, Option, refl, sym, ap, ◌∙◌}
use Rattle.std.specs.Prelude.{filter, slice_get}

-- two tests of one item
swap_next : {X : Type 0} (p q : X → Bool) (x : X) (xs : List X) (a b : Bool) → p x ≡ a → q x ≡ b → filter p (filter q xs) ≡ filter q (filter p xs)
    → filter p (filter q (x ∷ xs)) ≡ filter q (filter p (x ∷ xs))
swap_next p q x xs true true a b others =
    ap (λ t. filter p (cond t (x ∷ filter q xs) (filter q xs))) b
    ∙ ap (λ t. cond t (x ∷ filter p (filter q xs)) (filter p (filter q xs))) a
    ∙ ap (λ ls. x ∷ ls) others
    ∙ sym (ap (λ t. cond t (x ∷ filter q (filter p xs)) (filter q (filter p xs))) b)
    ∙ sym (ap (λ t. filter q (cond t (x ∷ filter p xs) (filter p xs))) a)
swap_next p q x xs true false a b others =
    ap (λ t. filter p (cond t (x ∷ filter q xs) (filter q xs))) b
    ∙ others
    ∙ sym (ap (λ t. cond t (x ∷ filter q (filter p xs)) (filter q (filter p xs))) b)
    ∙ sym (ap (λ t. filter q (cond t (x ∷ filter p xs) (filter p xs))) a)
swap_next p q x xs false true a b others =
    ap (λ t. filter p (cond t (x ∷ filter q xs) (filter q xs))) b
    ∙ ap (λ t. cond t (x ∷ filter p (filter q xs)) (filter p (filter q xs))) a
    ∙ others
    ∙ sym (ap (λ t. filter q (cond t (x ∷ filter p xs) (filter p xs))) a)
swap_next p q x xs false false a b others =
    ap (λ t. filter p (cond t (x ∷ filter q xs) (filter q xs))) b
    ∙ others
    ∙ sym (ap (λ t. filter q (cond t (x ∷ filter p xs) (filter p xs))) a)

-- two tests may be made in either order
pub filter_swap : {X : Type 0} (p q : X → Bool) (xs : List X) → filter p (filter q xs) ≡ filter q (filter p xs)
filter_swap p q [] = refl
filter_swap p q (x ∷ xs) = swap_next p q x xs (p x) (q x) refl refl (filter_swap p q xs)

-- an item stands among those of the items from one on that pass
pub record Stands {X : Type 0} (p : X → Bool) (xs : List X) (i left : ℕ) (whole : Option X) : Type 0 where
  pub there : left < length (filter p (drop i xs))
  pub same : slice_get (filter p (drop i xs)) left ≡ whole
