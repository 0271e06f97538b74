-- A board opens with the words of a race, and what its words are at the end.
use Rattle.std.proofs.Common.{◌≡◌, ℕ, zero, suc, ◌+◌, ◌<◌, List, [], ◌∷◌, ◌++◌, length, get_or, set, replicate, sym, ap, ◌∙◌, subst, arith}
use mathlib.Core.Option.{some, some-injective, some-ne-none}
use lib.ListN.{get_elem?}
use native.Mathlib.Decide.{dec_lt}
use Rattle.std.proofs.lemmas.List.{get_or_append_left}
use Rattle.std.proofs.Math.Seq.{get_or-append_seam}
use Rattle.atomic_table.specs.Table.{Final, Seen}
use Rattle.block_board.specs.declared.view.View.{View}
use Rattle.block_board.specs.declared.view.Size.{Size}
use Rattle.block_board.specs.Counts.{code_of, least_of, no_stop}
use Rattle.block_board.specs.Steps.{all_tickets, opened}
use Rattle.block_board.specs.Race.{HasRoom, Race, opens}
use Rattle.block_board.specs.Told.{IsRaceOf}
use Rattle.block_board.proofs.CountLemmas.{code_sum, sum_is_code, sole}
use Rattle.block_board.proofs.RaceLemmas.{opening_words, balance_of}
use Rattle.block_board.proofs.SoundLemmas.{stop_is_least, sound}

-- zeros with the stop in place are the words with which a race opens
pub opening_is : (n : ℕ) → set (replicate (n + 2) 0) 1 no_stop ≡ opening_words n
opening_is n = ap (λ (m : ℕ). set (replicate m 0) 1 no_stop) (let e : n + 2 ≡ suc (suc n) = omega arith in e)

-- a race opens with them
pub opens_with : (n w : ℕ) (words : List ℕ) → HasRoom n w → words ≡ set (replicate (n + 2) 0) 1 no_stop → Race n w words (opened n w ∷ [])
opens_with n w words room e = subst (λ (ws : List ℕ). Race n w ws (opened n w ∷ [])) (sym (e ∙ opening_is n)) (opens room)

-- at the end the stop is the least of what the seat with all tickets lowered
pub final_stop : (size : Size) (id : ℕ) (v : View) (ws : List ℕ) (xs : List (Unit {0})) → Final (Seen (IsRaceOf size) id v) ws xs → 0 < all_tickets v → all_tickets v ≡ size.workers
    → get_or ws 1 0 ≡ least_of v.lowered
final_stop size id v ws xs f live all =
    let s = f.0 in
    subst (λ (z : List ℕ). get_or z 1 0 ≡ least_of v.lowered) f.2
    (stop_is_least size.blocks size.workers s.words s.views id v (balance_of size.blocks size.workers s.words s.views f.1.0) f.1.1 live all)

-- and the code of each block is the one that it published, or 0
pub final_codes : (size : Size) (id : ℕ) (v : View) (ws : List ℕ) (xs : List (Unit {0})) → Final (Seen (IsRaceOf size) id v) ws xs → 0 < all_tickets v → all_tickets v ≡ size.workers
    → (b : ℕ) → b < size.blocks → get_or ws (2 + b) 0 ≡ code_of b v.published
final_codes size id v ws xs f live all b below =
    let n : ℕ = size.blocks in let w : ℕ = size.workers in
    let s = f.0 in
    let r = balance_of n w s.words s.views f.1.0 in
    let own = sound n w s.words s.views id v r f.1.1 live in
    let once = own.once b in let claimed = own.claimed b in
    let alone = sole (λ (y : View). code_sum b y.published) all_tickets s.views id v f.1.1 (λ j u p z. ap (λ (y : View). code_sum b y.published) ((r.each j u p).idle z)) (r.tickets ∙ sym all) in
    subst (λ (z : List ℕ). get_or z (2 + b) 0 ≡ code_of b v.published) f.2 (r.codes b below ∙ (alone ∙ sum_is_code b v.published (omega arith)))

-- a word that is read
pub read_is : (ws : List ℕ) (i x : ℕ) → get_elem? ws i ≡ some x → get_or ws i 0 ≡ x
read_is [] i x e = absurd (some-ne-none x (sym e))
read_is (y ∷ ys) zero x e = some-injective y x e
read_is (y ∷ ys) (suc i) x e = read_is ys i x e

-- one more number is copied to the end
pub copied : (f : ℕ → ℕ) (xs ys : List ℕ) (b x : ℕ) → length xs ≡ b → ys ≡ xs ++ x ∷ [] → ((j : ℕ) → j < b → get_or xs j 0 ≡ f j) → x ≡ f b → (j : ℕ) → j < b + 1 → get_or ys j 0 ≡ f j
copied f xs ys b x e is h last j lt = at (dec_lt j b)
  where
    at : Dec (j < b) → get_or ys j 0 ≡ f j
    at (yes p) = ap (λ (zs : List ℕ). get_or zs j 0) is ∙ (get_or_append_left xs (x ∷ []) 0 j (omega arith) ∙ h j p)
    at (no q) = let eq : j ≡ b = omega arith in ap (λ (zs : List ℕ). get_or zs j 0) is ∙ (ap (λ (i : ℕ). get_or (xs ++ x ∷ []) i 0) (eq ∙ sym e) ∙ (get_or-append_seam xs x [] 0 ∙ (last ∙ ap f (sym eq))))
