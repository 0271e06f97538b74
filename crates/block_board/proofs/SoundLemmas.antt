-- The view of each seat in a race is sound.
use Rattle.std.proofs.Common.{◌≡◌, ℕ, ◌^◌, ◌<◌, ◌≤◌, min, List, ◌++◌, length, sym, ap, ◌∙◌, subst, arith}
use mathlib.Core.Option.{some}
use lib.ListN.{get_elem?}
use Rattle.std.specs.Prelude.{All, Contains}
use Rattle.std.proofs.lemmas.List.Elements.{All-contains, All-append, All-weaker}
use Rattle.block_board.specs.declared.view.View.{View}
use Rattle.block_board.specs.Counts.{times, least_of}
use Rattle.block_board.specs.Steps.{all_tickets}
use Rattle.block_board.specs.Race.{next_of, stop_of, code_at}
use Rattle.block_board.specs.IsSound.{IsSound}
use Rattle.block_board.proofs.CountLemmas.{part_le, once_le, once_is, once_none, sole, sole_lowest, least_of_most}
use Rattle.block_board.proofs.Balance.{IsCode, Fits, Balance}

module _ (n w : ℕ) (words : List ℕ) (views : List View) (id : ℕ) (v : View) (r : Balance n w words views) (at : get_elem? views id ≡ some v) (live : 0 < all_tickets v) where
  -- the view fits the words
  fitting : Fits n w words v
  fitting = r.each id v at

  -- what a seat saw or published is the code of its block
  pub known_code : (b c : ℕ) → Contains (v.seen ++ v.published) (b, c) → (c ≡ code_at words b) × (2 ^ 63 ≤ c)
  known_code b c h = let is = (All-contains (IsCode n words) (v.seen ++ v.published) (b, c) (All-append (IsCode n words) v.seen v.published fitting.seen fitting.published) h) in (is.1, is.2)

  -- the next number was not claimed
  pub next_unclaimed : times (next_of words) v.claims ≡ 0
  next_unclaimed =
      let a = part_le (λ (y : View). times (next_of words) y.claims) views id v at in let c = r.claims (next_of words) in
      let o = once_none (next_of words) (min (next_of words) n) (omega arith) in omega arith

  -- a seat with all tickets has claimed each block below the next number
  pub all_below : all_tickets v ≡ w → (x : ℕ) → x < min (next_of words) n → times x v.claims ≡ 1
  all_below all x lt =
      let e = r.tickets in
      let s = sole (λ (y : View). times x y.claims) all_tickets views id v at (λ j u p z. ap (λ (y : View). times x y.claims) ((r.each j u p).idle z)) (omega arith) in
      sym s ∙ (r.claims x ∙ once_is x (min (next_of words) n) lt)

  -- and has lowered the stop to what it is
  pub stop_is_least : all_tickets v ≡ w → stop_of words ≡ least_of v.lowered
  stop_is_least all =
      let e = r.tickets in
      let s = sole_lowest (λ (y : View). least_of y.lowered) all_tickets views id v at (λ j u p z. ap (λ (y : View). least_of y.lowered) ((r.each j u p).idle z)) (omega arith) in
      let most = least_of_most v.lowered in let st = r.stop in omega arith

  -- where a seat used a ticket, the next number is past the blocks
  past_blocks : 0 < v.used → n ≤ next_of words
  past_blocks spent_one = let u' = part_le (λ (y : View). y.used) views id v at in let us = r.used in omega arith

  -- the view is sound
  pub sound : IsSound v
  sound =
      let f = fitting in
      let nb : v.blocks ≡ n = f.blocks live in
      let nw : v.workers ≡ w = f.workers live in
      record {
        blocks = subst (λ (m : ℕ). All (λ k. k < m) v.claims) (sym nb) f.below;
        once = λ k. let a = part_le (λ (y : View). times k y.claims) views id v at in let b = r.claims k in let m = once_le k (min (next_of words) n) in omega arith;
        few = (let a = part_le (λ (y : View). length y.claims) views id v at in let b = r.count in omega arith);
        claimed = f.claimed;
        marked = All-weaker (IsCode n words) (λ (p : ℕ × ℕ). 2 ^ 63 ≤ p.1) (λ p h. h.2) v.published f.published;
        seen = All-weaker (IsCode n words) (λ (p : ℕ × ℕ). (p.0 < v.blocks) × (2 ^ 63 ≤ p.1)) (λ p h. ((let lt = h.0 in omega arith), h.2)) v.seen f.seen;
        one_code = λ b c d hc hd. (known_code b c hc).0 ∙ sym (known_code b d hd).0;
        some_ticket = live;
        most_tickets = (let a = part_le all_tickets views id v at in let t = r.tickets in omega arith);
        all_claimed = λ all spent_one k lt. let past = past_blocks spent_one in all_below (omega arith) k (omega arith);
        lowest = λ all. let is = stop_is_least (omega arith) in let le = f.least in omega arith;
      }
