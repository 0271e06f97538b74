-- Texts that grow by one part for each number of a range.
use Rattle.std.proofs.Common.{◌≡◌, ℕ, ◌+◌, ◌-◌, ◌≤◌, List, [], ◌∷◌, ◌++◌, sym, ap, ◌∙◌, arith}
use Rattle.std.specs.Prelude.{flat_map}
use Rattle.std.specs.List.{range_with_len}
use Rattle.std.proofs.lemmas.List.{append_assoc, flat_map_more, map-id}
use Rattle.std.proofs.lemmas.List.FromFn.{map-range_with_len_more}

-- one number more stands at the end
range_more : (n : ℕ) → 1 ≤ n → range_with_len 1 (n + 1 - 1) ≡ range_with_len 1 (n - 1) ++ (n ∷ [])
range_more n some =
    let same : n + 1 - 1 ≡ n - 1 + 1 = omega (arith, some) in
    ap (range_with_len 1) same ∙ (sym (map-id (range_with_len 1 (n - 1 + 1))) ∙ (map-range_with_len_more (λ k. k) 1 (n - 1) n (omega (arith, some))
    ∙ ap (λ ls. ls ++ (n ∷ [])) (map-id (range_with_len 1 (n - 1)))))

-- and so does its part
pub one_more : (f : ℕ → List ℕ) (before : List ℕ) (n : ℕ) → 1 ≤ n → (before ++ flat_map f (range_with_len 1 (n - 1))) ++ f n ≡ before ++ flat_map f (range_with_len 1 (n + 1 - 1))
one_more f before n some =
    flat_map_more f before (range_with_len 1 (n - 1)) n ∙ ap (λ xs. before ++ flat_map f xs) (sym (range_more n some))

-- a part in two steps
pub one_more_in_two : (f : ℕ → List ℕ) (before now first second a b : List ℕ) (n : ℕ) → 1 ≤ n → now ≡ before ++ flat_map f (range_with_len 1 (n - 1)) → first ≡ now ++ a → second ≡ first ++ b
    → f n ≡ a ++ b → second ≡ before ++ flat_map f (range_with_len 1 (n + 1 - 1))
one_more_in_two f before now first second a b n some so one two both =
    two ∙ (ap (λ t. t ++ b) (one ∙ ap (λ t. t ++ a) so) ∙ (append_assoc (before ++ flat_map f (range_with_len 1 (n - 1))) a b
    ∙ (ap (λ t. (before ++ flat_map f (range_with_len 1 (n - 1))) ++ t) (sym both) ∙ one_more f before n some)))

-- four parts, one after another
pub four_parts : (old one two three all a b c d : List ℕ) → one ≡ old ++ a → two ≡ one ++ b → three ≡ two ++ c → all ≡ three ++ d → all ≡ old ++ (a ++ (b ++ (c ++ d)))
four_parts old one two three all a b c d p q r s =
    s ∙ (ap (λ t. t ++ d) (r ∙ ap (λ t. t ++ c) (q ∙ ap (λ t. t ++ b) p)) ∙ (append_assoc ((old ++ a) ++ b) c d
    ∙ (append_assoc (old ++ a) b (c ++ d) ∙ append_assoc old a (b ++ (c ++ d)))))
