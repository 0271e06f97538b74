-- Each race keeps the balance.
use Rattle.std.proofs.Common.{◌≡◌, ℕ, zero, suc, ◌+◌, ◌<◌, min, nat_lt, nat_eq, List, [], ◌∷◌, length, get_or, set, replicate, sym, refl, subst, arith, zero-le}
use mathlib.Core.Option.{some, some-injective, some-ne-none}
use lib.ListN.{get_elem?}
use Rattle.std.proofs.lemmas.List.{length-replicate}
use Rattle.std.proofs.lemmas.List.Elements.{All-nil}
use Rattle.block_board.specs.declared.view.View.{View}
use Rattle.block_board.specs.Counts.{no_stop}
use Rattle.block_board.specs.Steps.{opened}
use Rattle.block_board.specs.Race.{HasRoom, Race, opens, claims, publishes, looks, lowers, stops, reads_next, splits, joins, next_of, stop_of, code_at}
use Rattle.block_board.proofs.CountLemmas.{once_none}
use Rattle.block_board.proofs.Balance.{IsCode, Fits, Balance, kept}
use Rattle.block_board.proofs.StepLemmas.{claim_turn, publish_turn, look_turn, lower_turn, stop_turn, next_turn}
use Rattle.block_board.proofs.ExchangeLemmas.{cut_kept, merge_kept}

-- the words with which a race opens
abbrev pub opening_words : ℕ → List ℕ
opening_words n = 0 ∷ no_stop ∷ replicate n 0

-- no code is there
no_code : (n b : ℕ) → get_or (opening_words n) (2 + b) 0 ≡ 0
no_code n b = at (2 + b) (let more : 1 < 2 + b = omega arith in more)
  where
    zeros : (m k : ℕ) → get_or {A = ℕ} (replicate m 0) k 0 ≡ 0
    zeros zero k = refl
    zeros (suc m) zero = refl
    zeros (suc m) (suc k) = zeros m k

    at : (j : ℕ) → 1 < j → get_or (opening_words n) j 0 ≡ 0
    at zero h = absurd (omega arith)
    at (suc zero) h = absurd (omega arith)
    at (suc (suc k)) h = zeros n k

-- the first view fits
opened_fits : (n w : ℕ) → HasRoom n w → Fits n w (opening_words n) (opened n w)
opened_fits n w room = record {
  blocks = λ h. refl;
  workers = λ h. refl;
  below = All-nil (λ (k : ℕ). k < n);
  claimed = λ b. zero-le;
  published = All-nil (IsCode n (opening_words n));
  seen = All-nil (IsCode n (opening_words n));
  least = omega arith;
  idle = λ e. let crew = room.some_worker in absurd (omega arith);
}

-- the balance holds at the start
opening : (n w : ℕ) → HasRoom n w → Balance n w (opening_words n) (opened n w ∷ [])
opening n w room = record {
  room = room;
  long = (let l : length (replicate {A = ℕ} n 0) ≡ n = length-replicate n 0 in omega arith);
  claims = λ x. let o = once_none x (min 0 n) (omega arith) in omega arith;
  count = omega arith;
  codes = λ b h. no_code n b;
  marked = λ b h p. let z = no_code n b in absurd (omega arith);
  stop = omega arith;
  used = omega arith;
  tickets = omega arith;
  each = λ i v e. only i v e;
}
  where
    only : (i : ℕ) (v : View) → get_elem? (opened n w ∷ []) i ≡ some v → Fits n w (opening_words n) v
    only zero v e = subst (Fits n w (opening_words n)) (some-injective (opened n w) v e) (opened_fits n w room)
    only (suc i) v e = absurd (some-ne-none v (sym e))

-- each race keeps the balance
pub balance_of : (n w : ℕ) (words : List ℕ) (views : List View) → Race n w words views → Balance n w words views
balance_of n w _ _ (opens room) = opening n w room
balance_of n w _ _ (claims words views i v race sits ticket) =
    let r = balance_of n w words views race in
    let k : ℕ = next_of words in
    kept n w words (set words 0 (k + 1)) views i v _ r sits.0 (claim_turn n w words views i v r sits.0 sits.1 k (k + 1) refl refl ticket (nat_lt k v.blocks) refl)
balance_of n w _ _ (publishes words views i v b code race sits mine fresh marked) =
    let r = balance_of n w words views race in
    kept n w words (set words (2 + b) code) views i v _ r sits.0 (publish_turn n w words views i v r sits.0 sits.1 b code mine fresh marked)
balance_of n w _ _ (looks words views i v b race sits below) =
    let r = balance_of n w words views race in
    let k : ℕ = code_at words b in
    kept n w words words views i v _ r sits.0 (look_turn n w words views i v r sits.0 sits.1 b k below refl (nat_eq k 0) refl)
balance_of n w _ _ (lowers words views i v number race sits) =
    let r = balance_of n w words views race in
    kept n w words (set words 1 (min (stop_of words) number)) views i v _ r sits.0 (lower_turn n w words views i v r sits.0 sits.1 number)
balance_of n w _ _ (stops words views i v race sits) =
    let r = balance_of n w words views race in
    kept n w words words views i v _ r sits.0 (stop_turn n w words views i v r sits.0 sits.1)
balance_of n w _ _ (reads_next words views i v race sits) =
    let r = balance_of n w words views race in
    kept n w words words views i v _ r sits.0 (next_turn n w words views i v r sits.0 sits.1)
balance_of n w _ _ (splits words views i v t race sits some_t more) = cut_kept n w words views i v t (balance_of n w words views race) sits.0 some_t more
balance_of n w _ _ (joins words views i j v u race sits other apart) =
    merge_kept n w words views i j v u (balance_of n w words views race) sits.0 other.0 apart sits.1 other.1
