-- The first place of a byte in a text.
use Rattle.std.proofs.Common.{◌≡◌, ◌==◌, ◌||◌, ◌+◌, ◌<◌, nat_lt, lt-ltb, Some, None, ℕ, suc, true, false, not, cond, [], ◌∷◌, ◌++◌, length, take, drop, refl, ap, sym, ◌∙◌, subst, arith, eqb-true}
use Rattle.std.specs.List.{position_or_len, position}
use Rattle.std.proofs.lemmas.Bool.{ltb-true}
use Rattle.smc_settings.specs.Options.{Text}
use Rattle.smc_settings.proofs.CutLemmas.{has, both_fail}

-- the first place of a byte, or the length
abbrev pub place : ℕ → Text → ℕ
place b text = position_or_len (λ x. x == b) text

-- a text is cut there
pub record IsCutAt (b n : ℕ) (text : Text) : Type 0 where
  pub cut : text ≡ take n text ++ b ∷ drop (n + 1) text
  pub plain : has b (take n text) ≡ false

one_more : (n : ℕ) → 1 + n ≡ suc n
one_more n = omega arith

later : (b x n : ℕ) (text : Text) → (x == b) ≡ false → IsCutAt b n text → IsCutAt b (suc n) (x ∷ text)
later b x n text other is =
    let e : suc n + 1 ≡ suc (n + 1) = omega arith in
    record { cut = rw e (ap (λ t. x ∷ t) is.cut); plain = both_fail _ _ other is.plain }

pub place_found : (b : ℕ) (text : Text) → place b text < length text → IsCutAt b (place b text) text
place_found b [] small = absurd (omega (arith, small))
place_found b (x ∷ text) small = elim (x == b) as (λ t. (x == b) ≡ t → cond (not t) (1 + place b text) 0 < suc (length text) → IsCutAt b (cond (not t) (1 + place b text) 0) (x ∷ text)) [
  | true ↦ λ is _. record { cut = ap (λ z. z ∷ text) (eqb-true x b is); plain = refl }
  | false ↦ λ is less. rw (one_more (place b text)) (later b x (place b text) text is (place_found b text (omega (arith, less))))
] refl small

pub place_missing : (b : ℕ) (text : Text) → (place b text < length text → ⊥) → has b text ≡ false
place_missing b [] other = refl
place_missing b (x ∷ text) other = elim (x == b) as (λ t. (x == b) ≡ t → (cond (not t) (1 + place b text) 0 < suc (length text) → ⊥) → (t || has b text) ≡ false) [
  | true ↦ λ is none. absurd (none (omega arith))
  | false ↦ λ is none. place_missing b text (λ less. none (omega (arith, less)))
] refl other

-- what a search for the first place found
pub found_at : (b : ℕ) (text : Text) (i : ℕ) → Some i ≡ position (λ x. x == b) text → IsCutAt b i text
found_at b text i e = elim (nat_lt (place b text) (length text)) as (λ t. nat_lt (place b text) (length text) ≡ t → Some i ≡ cond t (Some (place b text)) None → IsCutAt b i text) [
  | true ↦ λ is same. let at : place b text ≡ i = cc same in subst (λ n. IsCutAt b n text) at (place_found b text (ltb-true _ _ is))
  | false ↦ λ is same. absurd (cc same)
] refl e

pub found_nowhere : (b : ℕ) (text : Text) → None ≡ position (λ x. x == b) text → has b text ≡ false
found_nowhere b text e = elim (nat_lt (place b text) (length text)) as (λ t. nat_lt (place b text) (length text) ≡ t → None ≡ cond t (Some (place b text)) None → has b text ≡ false) [
  | true ↦ λ is same. absurd (cc same)
  | false ↦ λ is same. place_missing b text (λ less. cc (sym is ∙ lt-ltb _ _ less))
] refl e
