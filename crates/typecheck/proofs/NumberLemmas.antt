-- The first of a numbered list with something to be told, and numbers that stop at the greatest.
use Rattle.std.proofs.Common.{◌≡◌, ℕ, ◌+◌, ◌<◌, List, [], ◌∷◌, Option, length, get_or, take, drop, refl, sym, ap, ◌∙◌, arith}
use Rattle.std.specs.Prelude.{None, Some}
use Rattle.std.specs.List.{enumerate_from}
use Rattle.std.specs.Option.{option_or}
use Rattle.std.proofs.lemmas.Grind.{common_steps}
use Rattle.std.proofs.lemmas.List.{take-append-drop}
use Rattle.prism_names.specs.First.{first_some}
use Rattle.const_eval.proofs.FirstLemmas as first
use Rattle.typecheck.proofs.OverLemmas.{or-nothing}
use Rattle.typecheck.proofs.MappedLemmas.{enumerate-append}

module _ {X Y : Type 0} (k : ℕ) (xs : List X) (i : ℕ) (x : X) (lt : i < length xs) (is : x ≡ get_or xs i x) (f : ℕ × X → Option Y)
    (far : first_some f (enumerate_from k (take i xs)) ≡ None) where
  -- nothing is told of those so far: what is told of one more
  pub from_more : first_some f (enumerate_from k (take (i + 1) xs)) ≡ f (k + i, x)
  from_more =
      ap (λ z. first_some f (enumerate_from k z)) (first.one_more xs i x lt is)
      ∙ (ap (first_some f) (enumerate-append k (take i xs) (x ∷ []))
      ∙ (first.first_some-append f (enumerate_from k (take i xs)) ((k + length (take i xs), x) ∷ [])
      ∙ (ap (λ o. option_or o (first_some f ((k + length (take i xs), x) ∷ []))) far
      ∙ (or-nothing (f (k + length (take i xs), x)) None refl ∙ ap (λ j. f (k + j, x)) long))))
    where
      long : length (take i xs) ≡ i
      long = grind (arith, common_steps, lt)

  -- what is told of this one is told of all
  pub from_here : (y : Y) → f (k + i, x) ≡ Some y → first_some f (enumerate_from k xs) ≡ Some y
  from_here y tells =
      ap (λ z. first_some f (enumerate_from k z)) (sym (take-append-drop (i + 1) xs))
      ∙ (ap (first_some f) (enumerate-append k (take (i + 1) xs) (drop (i + 1) xs))
      ∙ (first.first_some-append f (enumerate_from k (take (i + 1) xs)) (enumerate_from (k + length (take (i + 1) xs)) (drop (i + 1) xs))
      ∙ ap (λ o. option_or o (first_some f (enumerate_from (k + length (take (i + 1) xs)) (drop (i + 1) xs)))) (from_more ∙ tells)))
