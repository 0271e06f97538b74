-- What the words and the views of a race add up to, and that a step of one seat keeps it.
use Rattle.std.proofs.Common.{◌≡◌, ℕ, ◌+◌, ◌^◌, ◌<◌, ◌≤◌, ⊎_elim, min, max, List, length, set, sym, ap, ◌∙◌, subst, arith}
use mathlib.Core.Option.{some}
use lib.ListN.{get_elem?}
use Rattle.std.specs.Prelude.{All}
use Rattle.std.proofs.lemmas.List.Elements.{All-weaker}
use Rattle.atomic_table.proofs.Lists.{at_set}
use Rattle.block_board.specs.declared.view.View.{View}
use Rattle.block_board.specs.Counts.{times, pairs_of, least_of, once_below, total, lowest}
use Rattle.block_board.specs.Steps.{all_tickets, spent}
use Rattle.block_board.specs.Race.{HasRoom, next_of, stop_of, code_at}
use Rattle.block_board.proofs.CountLemmas.{code_sum, total-set, lowest-set}

-- a pair has the code of its block
abbrev pub IsCode : ℕ → List ℕ → ℕ × ℕ → Type 0
IsCode n words p = (p.0 < n) × (p.1 ≡ code_at words p.0) × (2 ^ 63 ≤ p.1)

-- a view fits the words
pub record Fits (n w : ℕ) (words : List ℕ) (v : View) : Type 0 where
  pub blocks : 0 < all_tickets v → v.blocks ≡ n
  pub workers : 0 < all_tickets v → v.workers ≡ w
  pub below : All (λ k. k < n) v.claims
  pub claimed : (b : ℕ) → pairs_of b v.published ≤ times b v.claims
  pub published : All (IsCode n words) v.published
  pub seen : All (IsCode n words) v.seen
  pub least : stop_of words ≤ v.least
  pub idle : all_tickets v ≡ 0 → v ≡ spent

-- the counts of all views add up to what the words say
pub record Balance (n w : ℕ) (words : List ℕ) (views : List View) : Type 0 where
  pub room : HasRoom n w
  pub long : length words ≡ n + 2
  pub claims : (x : ℕ) → total (λ v. times x v.claims) views ≡ once_below x (min (next_of words) n)
  pub count : total (λ v. length v.claims) views ≡ min (next_of words) n
  pub codes : (b : ℕ) → b < n → code_at words b ≡ total (λ v. code_sum b v.published) views
  pub marked : (b : ℕ) → b < n → 0 < code_at words b → 2 ^ 63 ≤ code_at words b
  pub stop : stop_of words ≡ lowest (λ v. least_of v.lowered) views
  pub used : total (λ v. v.used) views + n ≡ max (next_of words) n
  pub tickets : total all_tickets views ≡ w
  pub each : (i : ℕ) (v : View) → get_elem? views i ≡ some v → Fits n w words v

-- the view of a seat goes from v to u, and the words go with it
pub record Turn (n w : ℕ) (words words' : List ℕ) (v u : View) : Type 0 where
  pub long : length words' ≡ length words
  pub claims : (x : ℕ) → times x u.claims + once_below x (min (next_of words) n) ≡ times x v.claims + once_below x (min (next_of words') n)
  pub count : length u.claims + min (next_of words) n ≡ length v.claims + min (next_of words') n
  pub codes : (b : ℕ) → b < n → code_at words' b + code_sum b v.published ≡ code_at words b + code_sum b u.published
  pub marked : (b : ℕ) → b < n → 0 < code_at words' b → 2 ^ 63 ≤ code_at words' b
  pub stop : (k : ℕ) × (stop_of words' ≡ min (stop_of words) k) × (least_of u.lowered ≡ min (least_of v.lowered) k)
  pub used : u.used + max (next_of words) n ≡ v.used + max (next_of words') n
  pub tickets : all_tickets u ≡ all_tickets v
  pub stable : (b : ℕ) → b < n → 0 < code_at words b → code_at words' b ≡ code_at words b
  pub fits : Fits n w words' u

-- a code stays where the word of its block does
code_stays : (n : ℕ) (words words' : List ℕ) → ((b : ℕ) → b < n → 0 < code_at words b → code_at words' b ≡ code_at words b) → (p : ℕ × ℕ) → IsCode n words p → IsCode n words' p
code_stays n words words' stable p h = let there : 0 < code_at words p.0 = (let a = h.1 in let b = h.2 in omega arith) in (h.0, h.1 ∙ sym (stable p.0 h.0 there), h.2)

-- a view that did not change fits the words still
pub still : (n w : ℕ) (words words' : List ℕ) (x : View) → stop_of words' ≤ stop_of words
    → ((b : ℕ) → b < n → 0 < code_at words b → code_at words' b ≡ code_at words b) → Fits n w words x → Fits n w words' x
still n w words words' x le stable f = record {
  blocks = f.blocks;
  workers = f.workers;
  below = f.below;
  claimed = f.claimed;
  published = All-weaker (IsCode n words) (IsCode n words') (code_stays n words words' stable) x.published f.published;
  seen = All-weaker (IsCode n words) (IsCode n words') (code_stays n words words' stable) x.seen f.seen;
  least = let a = f.least in omega arith;
  idle = f.idle;
}

-- a turn of one seat keeps the balance
pub kept : (n w : ℕ) (words words' : List ℕ) (views : List View) (id : ℕ) (v u : View) → Balance n w words views → get_elem? views id ≡ some v
    → Turn n w words words' v u → Balance n w words' (set views id u)
kept n w words words' views id v u r at t = record {
  room = r.room;
  long = t.long ∙ r.long;
  claims = λ x. let a = total-set (λ (y : View). times x y.claims) views id v u at in let b = r.claims x in let c = t.claims x in omega arith;
  count = (let a = total-set (λ (y : View). length y.claims) views id v u at in let b = r.count in let c = t.count in omega arith);
  codes = λ b h. let a = total-set (λ (y : View). code_sum b y.published) views id v u at in let e = r.codes b h in let c = t.codes b h in omega arith;
  marked = t.marked;
  stop = t.stop.1 ∙ (ap (λ (z : ℕ). min z t.stop.0) r.stop ∙ sym (lowest-set (λ (y : View). least_of y.lowered) views id v u t.stop.0 at t.stop.2));
  used = let a = total-set (λ (y : View). y.used) views id v u at in let b = r.used in let c = t.used in omega arith;
  tickets = let a = total-set all_tickets views id v u at in let b = r.tickets in let c = t.tickets in omega arith;
  each = λ i x e. ⊎_elim
      (λ p. subst (Fits n w words') p.1 t.fits)
      (λ p. still n w words words' x (let s = t.stop.1 in omega arith) t.stable (r.each i x p.1))
      (at_set views id i u x e);
}
