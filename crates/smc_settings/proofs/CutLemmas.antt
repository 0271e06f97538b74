-- Texts that are cut at a byte.
use Rattle.std.proofs.Common.{◌≡◌, ◌==◌, ◌||◌, ℕ, Bool, true, false, List, [], ◌∷◌, ◌++◌, map, length, suc, eqb-true, arith, refl, ap, ap₂, sym, ◌∙◌, eq-eqb, ne_eqb}
use Rattle.std.specs.List.{list_any, list_all}
use Rattle.std.specs.Str.{bytes_eq}
use Rattle.std.proofs.lemmas.Slice.Eq.{bytes_eq-Decides}
use Rattle.std.proofs.lemmas.Bool.{and_from, and_parts, or_left, or_right}
use Rattle.smc_settings.specs.Options.{Text}

-- a text has a byte
abbrev pub has : ℕ → Text → Bool
has b text = list_any (λ x. x == b) text

-- neither of two tests passes
pub neither : (p q : Bool) → (p || q) ≡ false → (p ≡ false) × (q ≡ false)
neither true q e = cc
neither false q e = (refl, e)

pub both_fail : (p q : Bool) → p ≡ false → q ≡ false → (p || q) ≡ false
both_fail p q e f = ap (λ b. b || q) e ∙ f

-- a text has the byte at which it is cut
pub has_cut : (b : ℕ) (a r : Text) → has b (a ++ b ∷ r) ≡ true
has_cut b [] r = or_left _ _ (eq-eqb b b refl)
has_cut b (x ∷ a) r = or_right _ _ (has_cut b a r)

-- what stands before the first such byte, and after it, is found in one way
pub cut_once : (b : ℕ) (a r c s : Text) → has b a ≡ false → has b c ≡ false → a ++ b ∷ r ≡ c ++ b ∷ s → (a ≡ c) × (r ≡ s)
cut_once b [] r [] s pa pc e = (refl, cc)
cut_once b [] r (y ∷ c) s pa pc e =
    let same : y ≡ b = cc in absurd (cc (sym (eq-eqb y b same) ∙ (neither (y == b) (has b c) pc).0))
cut_once b (x ∷ a) r [] s pa pc e =
    let same : x ≡ b = cc in absurd (cc (sym (eq-eqb x b same) ∙ (neither (x == b) (has b a) pa).0))
cut_once b (x ∷ a) r (y ∷ c) s pa pc e =
    let rest : a ++ b ∷ r ≡ c ++ b ∷ s = cc in
    let same : x ≡ y = cc in
    let more = cut_once b a r c s (neither (x == b) (has b a) pa).1 (neither (y == b) (has b c) pc).1 rest in
    (ap₂ (λ h t. h ∷ t) same more.0, more.1)

-- bytes that pass a test lack one that doesn't
pub lacks : (p : ℕ → Bool) (b : ℕ) (text : Text) → p b ≡ false → list_all p text ≡ true → has b text ≡ false
lacks p b [] other all = refl
lacks p b (x ∷ text) other all =
    let parts = and_parts (p x) (list_all p text) all in
    both_fail _ _ (ne_eqb x b (λ e. cc (sym parts.0 ∙ (ap p e ∙ other)))) (lacks p b text other parts.1)

-- joined texts lack what both lack
pub join_lacks : (b : ℕ) (a r : Text) → has b a ≡ false → has b r ≡ false → has b (a ++ r) ≡ false
join_lacks b [] r one two = two
join_lacks b (x ∷ a) r one two = let parts = neither (x == b) (has b a) one in both_fail _ _ parts.0 (join_lacks b a r parts.1 two)

-- joined texts pass a test that both pass
pub join_all : (p : ℕ → Bool) (a r : Text) → list_all p a ≡ true → list_all p r ≡ true → list_all p (a ++ r) ≡ true
join_all p [] r one two = two
join_all p (x ∷ a) r one two = let parts = and_parts _ _ one in and_from _ _ parts.0 (join_all p a r parts.1 two)

-- a test of the images of a list
pub list_any-map : {X Y : Type 0} (p : Y → Bool) (f : X → Y) (xs : List X) → list_any p (map f xs) ≡ list_any (λ x. p (f x)) xs
list_any-map p f [] = refl
list_any-map p f (x ∷ xs) = ap (λ b. p (f x) || b) (list_any-map p f xs)

-- texts that are found different are not the same
pub different : (a b : Text) → bytes_eq a b ≡ false → a ≡ b → ⊥
different a b other e = cc (sym other ∙ (bytes_eq-Decides a b).1 e)

-- a list that is found empty has no images
pub empty_map : {X Y : Type 0} (f : X → Y) (xs : List X) → (length xs == 0) ≡ true → map f xs ≡ []
empty_map f [] e = refl
empty_map f (x ∷ xs) e = let none : suc (length xs) ≡ 0 = eqb-true _ _ e in absurd (omega (arith, none))
