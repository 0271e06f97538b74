-- Lists of what modules have, as one module more is listed.
use Rattle.std.proofs.Common.{◌≡◌, ℕ, ◌+◌, ◌<◌, List, [], ◌∷◌, ◌++◌, length, get_or, take, sym, ap, ◌∙◌, arith, append_assoc}
use Rattle.std.specs.Prelude.{flat_map}
use Rattle.std.specs.List.{enumerate_from}
use Rattle.std.proofs.lemmas.Grind.{common_steps, flat_map-append}
use Rattle.std.proofs.lemmas.List.{append-nil}
use Rattle.const_eval.proofs.FirstLemmas.{one_more}
use Rattle.typecheck.proofs.MappedLemmas.{enumerate-append}

-- what is appended behind what was
pub appended : {B : Type 0} (before now after names part whole : List B) → now ≡ before ++ part → after ≡ now ++ names → whole ≡ part ++ names → after ≡ before ++ whole
appended before now after names part whole so_far then is =
    then ∙ (ap (λ z. z ++ names) so_far ∙ (append_assoc before part names ∙ ap (λ z. before ++ z) (sym is)))

-- what one module more has stands behind what the others have
pub listed_more : {M B : Type 0} (modules : List M) (i : ℕ) (m : M) → i < length modules → m ≡ get_or modules i m → (f : ℕ × M → List B)
    → flat_map f (enumerate_from 0 (take (i + 1) modules)) ≡ flat_map f (enumerate_from 0 (take i modules)) ++ f (i, m)
listed_more modules i m lt is f =
    ap (λ z. flat_map f (enumerate_from 0 z)) (one_more modules i m lt is)
    ∙ (ap (flat_map f) (enumerate-append 0 (take i modules) (m ∷ []) ∙ ap (λ k. enumerate_from 0 (take i modules) ++ ((k, m) ∷ [])) long)
    ∙ (flat_map-append f (enumerate_from 0 (take i modules)) ((i, m) ∷ [])
    ∙ ap (λ z. flat_map f (enumerate_from 0 (take i modules)) ++ z) (append-nil (f (i, m)))))
  where
    long : 0 + length (take i modules) ≡ i
    long = grind (arith, common_steps, lt)
