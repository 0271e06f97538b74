-- The balance of a race gives the rule.
use Rattle.std.proofs.Common.{◌≡◌, ◌≢◌, ℕ, ◌<◌, List, sym, ap, subst, arith}
use native.Mathlib.Decide.{dec_lt, ℕ_discrete}
use Rattle.std.specs.Prelude.{Contains}
use Rattle.std.proofs.lemmas.List.Elements.{All-contains}
use Rattle.block_board.specs.declared.view.View.{View}
use Rattle.block_board.specs.Steps.{all_tickets}
use Rattle.block_board.specs.Race.{Race, Sits, code_at}
use Rattle.block_board.specs.KeepsRule.{KeepsRule}
use Rattle.block_board.proofs.CountLemmas.{code_sum, some_part, some_pair, parts_le}
use Rattle.block_board.proofs.Balance.{IsCode, Fits, Balance}
use Rattle.block_board.proofs.RaceLemmas.{balance_of}

-- a view with some code sits
lives : (n w : ℕ) (words : List ℕ) (v : View) (b : ℕ) → Fits n w words v → 0 < code_sum b v.published → 0 < all_tickets v
lives n w words v b f coded = at (dec_lt 0 (all_tickets v))
  where
    at : Dec (0 < all_tickets v) → 0 < all_tickets v
    at (yes h) = h
    at (no h) = let none : code_sum b v.published ≡ 0 = ap (λ (y : View). code_sum b y.published) (f.idle (omega arith)) in absurd (omega arith)

-- a code that is there was published
published_by : (n w : ℕ) (words : List ℕ) (views : List View) → Balance n w words views → (b : ℕ) → b < n → code_at words b ≢ 0
    → (i : ℕ) × (v : View) × Sits views i v × Contains v.published (b, code_at words b)
published_by n w words views r b below there =
    let sum = r.codes b below in
    let part = some_part (λ (v : View). code_sum b v.published) views (omega arith) in
    let v : View = part.1 in
    let f = r.each part.0 v part.2 in
    let pair = some_pair b v.published part.3 in
    let is = All-contains (IsCode n words) v.published (b, pair.0) f.published pair.1 in
    (part.0, v, (part.2, lives n w words v b f part.3), subst (λ (c : ℕ). Contains v.published (b, c)) is.1 pair.1)

-- a seat with all tickets is the only one that sits
one_alone : (n w : ℕ) (words : List ℕ) (views : List View) → Balance n w words views → (i j : ℕ) (v u : View) → Sits views i v → Sits views j u → all_tickets v ≡ w → i ≡ j
one_alone n w words views r i j v u here there all = at (ℕ_discrete i j)
  where
    at : Dec (i ≡ j) → i ≡ j
    at (yes e) = e
    at (no h) = let both = parts_le all_tickets views i j v u here.0 there.0 h in let t = r.tickets in let live = there.1 in absurd (omega arith)

-- the rule
pub rule_of : (n w : ℕ) (words : List ℕ) (views : List View) → Race n w words views → KeepsRule n w words views
rule_of n w words views race =
    let r = balance_of n w words views race in
    record {
      claims = r.claims;
      claimed = λ i v sits. (r.each i v sits.0).claimed;
      published = λ i v sits b code at. let is = All-contains (IsCode n words) v.published (b, code) (r.each i v sits.0).published at in (is.0, sym is.1, is.2);
      codes = published_by n w words views r;
      seen = λ i v sits b code at. let is = All-contains (IsCode n words) v.seen (b, code) (r.each i v sits.0).seen at in (is.0, sym is.1, (let high = is.2 in λ e. omega arith));
      stop = r.stop;
      least = λ i v sits. (r.each i v sits.0).least;
      used = (let u = r.used in omega arith);
      tickets = r.tickets;
      idle = λ i v at. (r.each i v at).idle;
      alone = one_alone n w words views r;
    }
