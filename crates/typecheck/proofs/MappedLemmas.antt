-- The first of a list with something to be told, where the list is seen as another, or numbered.
use Rattle.std.proofs.Common.{◌≡◌, ℕ, ◌+◌, ◌<◌, List, [], ◌∷◌, ◌++◌, Option, length, get_or, take, drop, map, refl, sym, ap, ◌∙◌, arith}
use Rattle.std.specs.Prelude.{None, Some}
use Rattle.std.specs.List.{enumerate_from}
use Rattle.std.specs.Option.{option_or}
use Rattle.std.proofs.lemmas.Grind.{common_steps}
use Rattle.std.proofs.lemmas.List.{map-append, take-append-drop}
use Rattle.prism_names.specs.First.{first_some}
use Rattle.prism_names.proofs.NameLemmas.{one_more}
use Rattle.const_eval.proofs.FirstLemmas as first
use Rattle.typecheck.proofs.OverLemmas.{or-nothing}

first_some-map : {X Z Y : Type 0} (h : X → Z) (f : Z → Option Y) (xs : List X) → first_some f (map h xs) ≡ first_some (λ x. f (h x)) xs
first_some-map h f [] = refl
first_some-map h f (x ∷ xs) = ap (option_or (f (h x))) (first_some-map h f xs)

pub enumerate-append : {X : Type 0} (k : ℕ) (xs ys : List X) → enumerate_from k (xs ++ ys) ≡ enumerate_from k xs ++ enumerate_from (k + length xs) ys
enumerate-append k [] ys = ap (λ j. enumerate_from j ys) (let e : k ≡ k + 0 = omega arith in e)
enumerate-append k (x ∷ xs) ys =
    ap (λ rest. (k, x) ∷ rest) (enumerate-append (k + 1) xs ys
    ∙ ap (λ j. enumerate_from (k + 1) xs ++ enumerate_from j ys) (let e : k + 1 + length xs ≡ k + length (x ∷ xs) = omega arith in e))

module _ {X Z : Type 0} (h : X → Z) (xs : List X) (i : ℕ) (x : X) (lt : i < length xs) (is : x ≡ get_or xs i x) where
  module _ {Y : Type 0} (f : Z → Option Y) (far : first_some f (map h (take i xs)) ≡ None) where
    -- nothing is told of those so far: what is told of one more
    pub mapped_more : first_some f (map h (take (i + 1) xs)) ≡ f (h x)
    mapped_more =
        first_some-map h f (take (i + 1) xs)
        ∙ first.told_more xs i x lt is (λ z. f (h z)) (sym (first_some-map h f (take i xs)) ∙ far)

    -- what is told of this one is told of all
    pub mapped_here : (y : Y) → f (h x) ≡ Some y → first_some f (map h xs) ≡ Some y
    mapped_here y tells =
        first_some-map h f xs ∙ first.told_here xs i x lt is (λ z. f (h z)) (sym (first_some-map h f (take i xs)) ∙ far) y tells

  long : 0 + length (map h (take i xs)) ≡ i
  long = grind (arith, common_steps, lt)

  -- one more is numbered by how many stand before it
  numbered : enumerate_from 0 (map h (take (i + 1) xs)) ≡ enumerate_from 0 (map h (take i xs)) ++ ((i, h x) ∷ [])
  numbered =
      ap (enumerate_from 0) (one_more h xs i x lt is) ∙ (enumerate-append 0 (map h (take i xs)) (h x ∷ [])
      ∙ ap (λ k. enumerate_from 0 (map h (take i xs)) ++ ((k, h x) ∷ [])) long)

  module _ {Y : Type 0} (f : ℕ × Z → Option Y) (far : first_some f (enumerate_from 0 (map h (take i xs))) ≡ None) where
    -- the same of numbered items
    pub numbered_more : first_some f (enumerate_from 0 (map h (take (i + 1) xs))) ≡ f (i, h x)
    numbered_more =
        ap (first_some f) numbered ∙ (first.first_some-append f (enumerate_from 0 (map h (take i xs))) ((i, h x) ∷ [])
        ∙ (ap (λ o. option_or o (first_some f ((i, h x) ∷ []))) far ∙ or-nothing (f (i, h x)) None refl))

    pub numbered_here : (y : Y) → f (i, h x) ≡ Some y → first_some f (enumerate_from 0 (map h xs)) ≡ Some y
    numbered_here y tells =
        ap (λ zs. first_some f (enumerate_from 0 (map h zs))) (sym (take-append-drop (i + 1) xs))
        ∙ (ap (λ zs. first_some f (enumerate_from 0 zs)) (map-append h (take (i + 1) xs) (drop (i + 1) xs))
        ∙ (ap (first_some f) (enumerate-append 0 (map h (take (i + 1) xs)) (map h (drop (i + 1) xs)))
        ∙ (first.first_some-append f (enumerate_from 0 (map h (take (i + 1) xs))) (enumerate_from (0 + length (map h (take (i + 1) xs))) (map h (drop (i + 1) xs)))
        ∙ ap (λ o. option_or o (first_some f (enumerate_from (0 + length (map h (take (i + 1) xs))) (map h (drop (i + 1) xs))))) (numbered_more ∙ tells))))
