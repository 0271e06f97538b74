-- What the table asks of each step: the race goes on, and the seat is told what the step tells.
use Rattle.std.proofs.Common.{◌≡◌, ℕ, ◌+◌, ◌-◌, ◌%◌, ◌^◌, ◌<◌, ◌≤◌, min, cond, Bool, true, false, nat_lt, List, [], ◌∷◌, ◌++◌, get_or, set, sym, refl, ap, ◌∙◌, subst, arith}
use mathlib.Core.Option.{none, some}
use lib.ListN.{get_elem?}
use borrow.Author.Tests.{ltb-false}
use Rattle.std.specs.Prelude.{Contains}
use Rattle.std.proofs.lemmas.List.{set-get_or}
use Rattle.atomic_table.specs.Table.{Act, keeps, step, stepped, carried_after, Valid, Allows, Splits, Joins}
use Rattle.atomic_table.proofs.Lists.{set_else}
use Rattle.block_board.specs.declared.view.View.{View}
use Rattle.block_board.specs.declared.view.Size.{Size}
use Rattle.block_board.specs.Counts.{times, pairs_of, least_of}
use Rattle.block_board.specs.Steps.{all_tickets, after_claim, after_publish, after_look, after_lower, after_stop, after_next, cut, given, merged, spent}
use Rattle.block_board.specs.Race.{Race, claims, publishes, looks, lowers, stops, reads_next, splits, joins, next_of, stop_of, code_at}
use Rattle.block_board.specs.IsSound.{IsSound}
use Rattle.block_board.specs.Told.{TableSeat, IsRaceOf, Becomes, claim_tells, publish_tells, look_tells, lower_tells, stop_tells, next_tells}
use Rattle.block_board.proofs.CountLemmas.{set_there, lowest_le, times-append}
use Rattle.block_board.proofs.StepLemmas.{next_small, here_one}
use Rattle.block_board.proofs.RaceLemmas.{balance_of}
use Rattle.block_board.proofs.SoundLemmas.{sound, known_code, next_unclaimed, all_below}

-- after a step of a race the view of its seat is sound
sound_after : (n w : ℕ) (words : List ℕ) (views : List View) (id : ℕ) (v u : View) → get_elem? views id ≡ some v → 0 < all_tickets u → Race n w words (set views id u) → IsSound u
sound_after n w words views id v u at live race = sound n w words (set views id u) id u (balance_of n w words (set views id u) race) (set_there views id v u at) live

-- a race goes on where a word is written as it was
same_words : (n w i : ℕ) (words : List ℕ) (views : List View) → Race n w words views → Race n w (set words i (get_or words i 0)) views
same_words n w i words views race = subst (λ (ws : List ℕ). Race n w ws views) (sym (set-get_or words i 0)) race

-- a claim keeps some ticket, left or used
claim_live : (v : View) (k : ℕ) → 0 < v.tickets → 0 < all_tickets (after_claim v k)
claim_live v k ticket = grind (arith, ticket)

-- a block is claimed once by a claim of it
claim_adds : (v : View) (k : ℕ) → k < v.blocks → times k v.claims ≡ 0 → times k (after_claim v k).claims ≡ 1
claim_adds v k below zeros = at (nat_lt k v.blocks) refl
  where
    at : (t : Bool) → nat_lt k v.blocks ≡ t
        → times k (cond t (record v { claims = v.claims ++ k ∷ []; steps = v.steps + 1; last = (0, k) }) (record v { tickets = v.tickets - 1; used = v.used + 1; steps = v.steps + 1; last = (0, k) })).claims ≡ 1
    at true is = let more = times-append k v.claims (k ∷ []) in let one = here_one k k in omega (arith, more, one.0)
    at false is = let above = ltb-false k v.blocks is in absurd (omega arith)

-- a claim publishes nothing
claim_publishes_none : (v : View) (k : ℕ) → (after_claim v k).published ≡ v.published
claim_publishes_none v k = at (nat_lt k v.blocks)
  where
    at : (t : Bool) → (cond t (record v { claims = v.claims ++ k ∷ []; steps = v.steps + 1; last = (0, k) }) (record v { tickets = v.tickets - 1; used = v.used + 1; steps = v.steps + 1; last = (0, k) })).published ≡ v.published
    at true = refl
    at false = refl

-- the step of `claim`
pub claiming : (size : Size) (slots id : ℕ) (me : TableSeat) → 0 < me.0.tickets
    → Allows (IsRaceOf size) slots id me 0 (λ x. (x + 1) % 2 ^ 64) (claim_tells (step slots 0 1 0 none) me)
claiming size slots id me ticket s race _ at _ =
    let n : ℕ = size.blocks in let w : ℕ = size.workers in
    let v : View = me.0 in
    let k : ℕ = next_of s.words in
    let u : View = after_claim v k in
    let live : 0 < all_tickets v = omega arith in
    let r = balance_of n w s.words s.views race in
    let f = r.each id v at in
    let small = next_small n w s.words s.views id v r at live in
    let most = r.room.most_blocks in let crew = r.room.most_workers in
    let raised : (k + 1) % 2 ^ 64 ≡ k + 1 = omega arith in
    let after = claims s.words s.views id v race (at, live) ticket in
    let fresh = next_unclaimed n w s.words s.views id v r at live in
    let nb : v.blocks ≡ n = f.blocks live in
    let nw : v.workers ≡ w = f.workers live in (
      u,
      keeps,
      tt,
      subst (λ (m : ℕ). Race n w (set s.words 0 m) (set s.views id u)) (sym raised) after,
      (
        (refl, refl, sound_after n w (set s.words 0 (k + 1)) s.views id v u at (claim_live v k ticket) after),
        fresh,
        λ below. claim_adds v k below fresh,
        ap (pairs_of k) (claim_publishes_none v k) ∙ (let owned = f.claimed k in let zeros : times k v.claims ≡ 0 = fresh in omega arith),
        λ all x lt. all_below n w s.words s.views id v r at live (omega arith) x (omega arith),
      ),
    )

-- the step of `publish`
pub publishing : (size : Size) (slots id : ℕ) (me : TableSeat) (b code : ℕ) → 0 < all_tickets me.0 → 0 < times b me.0.claims → pairs_of b me.0.published ≡ 0 → 2 ^ 63 ≤ code
    → Allows (IsRaceOf size) slots id me (2 + b) (λ _. code) (λ _. publish_tells (step slots (2 + b) code 0 none) me code)
publishing size slots id me b code live mine fresh marked s race _ at _ =
    let n : ℕ = size.blocks in let w : ℕ = size.workers in
    let here : b ≡ 2 + b - 2 = omega arith in
    let u : View = after_publish me.0 (2 + b - 2) code in
    let after = subst (λ (z : ℕ). Race n w (set s.words (2 + b) code) (set s.views id (after_publish me.0 z code))) here
    (publishes s.words s.views id me.0 b code race (at, live) mine fresh marked) in
    (u, keeps, tt, after, (refl, refl, sound_after n w (set s.words (2 + b) code) s.views id me.0 u at live after))

-- a look leaves the tickets
look_live : (v : View) (b k : ℕ) → 0 < all_tickets v → 0 < all_tickets (after_look v b k)
look_live v b k live = grind (arith, live)

-- the step of `look`
pub looking : (size : Size) (slots id : ℕ) (me : TableSeat) (b : ℕ) → 0 < all_tickets me.0 → b < size.blocks
    → Allows (IsRaceOf size) slots id me (2 + b) (λ x. x) (look_tells (step slots (2 + b) 0 0 none) me)
looking size slots id me b live below s race _ at _ =
    let n : ℕ = size.blocks in let w : ℕ = size.workers in
    let v : View = me.0 in
    let k : ℕ = code_at s.words b in
    let here : b ≡ 2 + b - 2 = omega arith in
    let u : View = after_look v b k in
    let r = balance_of n w s.words s.views race in
    let after = looks s.words s.views id v b race (at, live) below in
    let P : ℕ → Type 0 = λ z. (y : View) × (a : Act (Unit {0})) × Valid s.homes me.1 a × IsRaceOf size (stepped s (2 + b) k id me.1 y a)
    × (Becomes me (y, carried_after me.1 a) (after_look v z k) × ((code : ℕ) → Contains (v.seen ++ v.published) (z, code) → (k ≡ code) × (0 < k)) × (0 < k → 2 ^ 63 ≤ k)) in
    subst P here (
      u,
      keeps,
      tt,
      same_words n w (2 + b) s.words (set s.views id u) after,
      (
        (refl, refl, sound_after n w s.words s.views id v u at (look_live v b k live) after),
        λ code h. let is = known_code n w s.words s.views id v r at live b code h in (sym is.0, (let high = is.1 in let e = is.0 in omega arith)),
        r.marked b below,
      ),
    )

-- the step of `lower`
pub lowering : (size : Size) (slots id : ℕ) (me : TableSeat) (number : ℕ) → 0 < all_tickets me.0
    → Allows (IsRaceOf size) slots id me 1 (λ x. min x number) (lower_tells (step slots 1 number 0 none) me)
lowering size slots id me number live s race _ at _ =
    let n : ℕ = size.blocks in let w : ℕ = size.workers in
    let k : ℕ = stop_of s.words in
    let u : View = after_lower me.0 number k in
    let r = balance_of n w s.words s.views race in
    let after = lowers s.words s.views id me.0 number race (at, live) in (
      u,
      keeps,
      tt,
      after,
      (
        (refl, refl, sound_after n w (set s.words 1 (min k number)) s.views id me.0 u at live after),
        (r.each id me.0 at).least,
        (let e = r.stop in let le = lowest_le (λ (y : View). least_of y.lowered) s.views id me.0 at in omega arith),
      ),
    )

-- the step of `stop`
pub stopping : (size : Size) (slots id : ℕ) (me : TableSeat) → 0 < all_tickets me.0
    → Allows (IsRaceOf size) slots id me 1 (λ x. x) (stop_tells (step slots 1 0 0 none) me)
stopping size slots id me live s race _ at _ =
    let n : ℕ = size.blocks in let w : ℕ = size.workers in
    let k : ℕ = stop_of s.words in
    let u : View = after_stop me.0 k in
    let r = balance_of n w s.words s.views race in
    let after = stops s.words s.views id me.0 race (at, live) in (
      u,
      keeps,
      tt,
      same_words n w 1 s.words (set s.views id u) after,
      (
        (refl, refl, sound_after n w s.words s.views id me.0 u at live after),
        (r.each id me.0 at).least,
        (let e = r.stop in let le = lowest_le (λ (y : View). least_of y.lowered) s.views id me.0 at in omega arith),
      ),
    )

-- the read of the next number that ends `split` and `join`
pub reading : (size : Size) (slots id : ℕ) (me : TableSeat) → 0 < all_tickets me.0
    → Allows (IsRaceOf size) slots id me 0 (λ x. x) (next_tells (step slots 0 0 0 none) me)
reading size slots id me live s race _ at _ =
    let n : ℕ = size.blocks in let w : ℕ = size.workers in
    let u : View = after_next me.0 (next_of s.words) in
    let after = reads_next s.words s.views id me.0 race (at, live) in
    (u, keeps, tt, same_words n w 0 s.words (set s.views id u) after, (refl, refl, sound_after n w s.words s.views id me.0 u at live after))

-- tickets are handed over
pub splitting : (size : Size) (id : ℕ) (v : View) (t : ℕ) → 1 ≤ t → t < v.tickets → Splits (IsRaceOf size) id v (cut v t) (given v t)
splitting size id v t some_t more s race at = splits s.words s.views id v t race (at, (let live : 0 < all_tickets v = omega arith in live)) some_t more

-- a seat is taken in
pub joining : (size : Size) (id : ℕ) (v : View) (other : ℕ) (u : View) → 0 < all_tickets v → 0 < all_tickets u → Joins (IsRaceOf size) id v other u (merged v u) spent
joining size id v other u live alive s race at apart there =
    joins s.words s.views id other v u race (at, live) (sym (set_else s.views id other (merged v u) apart) ∙ there, alive) apart
