-- Each step of one seat is a turn: the words change as its view does.
use Rattle.std.proofs.Common.{◌≡◌, ◌≢◌, ℕ, ◌+◌, ◌-◌, ◌^◌, ◌<◌, ◌≤◌, min, cond, Bool, true, false, nat_lt, nat_eq, List, [], ◌∷◌, ◌++◌, length, get_or, set, sym, refl, ap, ◌∙◌, subst, arith, length-set, length-append, get_or-set_same, get_or-set_other, eq-eqb, ne_eqb}
use mathlib.Core.Option.{some}
use lib.ListN.{get_elem?}
use native.Mathlib.Decide.{ℕ_discrete}
use borrow.Author.Tests.{ltb-true, ltb-false, eqb-false}
use Rattle.std.proofs.lemmas.List.Elements.{All-push}
use Rattle.block_board.specs.declared.view.View.{View}
use Rattle.block_board.specs.Counts.{times, pairs_of, least_of, once_below}
use Rattle.block_board.specs.Steps.{all_tickets, after_publish, after_lower, after_stop, after_next}
use Rattle.block_board.specs.Race.{next_of, stop_of, code_at}
use Rattle.block_board.proofs.CountLemmas.{code_sum, part_le, times-append, pairs_of-append, code_sum-append, least_of-append, least_of_most, lowest_most, once_mono, once_more, once_le, no_code_sum, below_n, sole, total_le}
use Rattle.block_board.proofs.Balance.{IsCode, Fits, Balance, Turn, still}

module _ (n w : ℕ) (words : List ℕ) (views : List View) (id : ℕ) (v : View) (r : Balance n w words views) (at : get_elem? views id ≡ some v) (live : 0 < all_tickets v) where
  -- the view fits the words
  fitting : Fits n w words v
  fitting = r.each id v at

  -- the stop is a word
  pub stop_most : stop_of words ≤ 18446744073709551615
  stop_most = let s = r.stop in let m = lowest_most (λ (y : View). least_of y.lowered) views in omega arith

  -- the next number stays small
  pub next_small : next_of words ≤ n + w
  next_small = let u = r.used in let t = r.tickets in let le = total_le (λ (y : View). y.used) all_tickets (λ y. omega arith) views in omega arith

  -- a write of the next number leaves the other words
  next_other : (m j : ℕ) → 0 < j → get_or (set words 0 m) j 0 ≡ get_or words j 0
  next_other m j h = get_or-set_other words 0 j m 0 (λ e. omega arith)

  -- and the next number is what was written
  next_is : (m : ℕ) → get_or (set words 0 m) 0 0 ≡ m
  next_is m = let l = r.long in get_or-set_same words 0 m 0 (omega arith)

  -- a write of the next number leaves the codes marked
  next_marked : (m b : ℕ) → b < n → 0 < code_at (set words 0 m) b → 2 ^ 63 ≤ code_at (set words 0 m) b
  next_marked m b h = subst (λ (z : ℕ). 0 < z → 2 ^ 63 ≤ z) (sym (next_other m (2 + b) (omega arith))) (r.marked b h)

  -- a claim of the number k, by whether it is a block
  pub claim_turn : (k m : ℕ) → k ≡ next_of words → m ≡ k + 1 → 0 < v.tickets → (t : Bool) → nat_lt k v.blocks ≡ t
      → Turn n w words (set words 0 m) v
      (cond t (record v { claims = v.claims ++ k ∷ []; steps = v.steps + 1; last = (0, k) })
      (record v { tickets = v.tickets - 1; used = v.used + 1; steps = v.steps + 1; last = (0, k) }))
  claim_turn k m is more ticket true t =
      let size = fitting.blocks live in let below = ltb-true k v.blocks t in let nx = next_is m in
      let f = still n w words (set words 0 m) v (let e = next_other m 1 (omega arith) in omega arith) (λ b h p. next_other m (2 + b) (omega arith)) fitting in
      record {
        long = length-set words 0 m;
        claims = λ x. let a = times-append x v.claims (k ∷ []) in let o = once_more x k in
            let e : once_below x (min (get_or words 0 0) n) ≡ once_below x k = ap (once_below x) (omega arith) in
            let e' : once_below x (min (get_or (set words 0 m) 0 0) n) ≡ once_below x (k + 1) = ap (once_below x) (omega arith) in omega arith;
        count = (let a = length-append v.claims (k ∷ []) in omega arith);
        codes = λ b h. let e = next_other m (2 + b) (omega arith) in omega arith;
        marked = next_marked m;
        stop = (18446744073709551615, (let e = next_other m 1 (omega arith) in let s = stop_most in omega arith), (let l = least_of_most v.lowered in omega arith));
        used = omega arith;
        tickets = refl;
        stable = λ b h p. next_other m (2 + b) (omega arith);
        fits = record {
          blocks = f.blocks;
          workers = f.workers;
          below = All-push (λ (y : ℕ). y < n) v.claims k f.below (omega arith);
          claimed = λ b. let o = f.claimed b in let a = times-append b v.claims (k ∷ []) in omega arith;
          published = f.published;
          seen = f.seen;
          least = f.least;
          idle = λ e. absurd (omega arith);
        };
      }
  claim_turn k m is more ticket false t =
      let size = fitting.blocks live in let above = ltb-false k v.blocks t in let nx = next_is m in
      let f = still n w words (set words 0 m) v (let e = next_other m 1 (omega arith) in omega arith) (λ b h p. next_other m (2 + b) (omega arith)) fitting in
      record {
        long = length-set words 0 m;
        claims = λ x. let e : once_below x (min (get_or words 0 0) n) ≡ once_below x (min (get_or (set words 0 m) 0 0) n) = ap (once_below x) (omega arith) in omega arith;
        count = omega arith;
        codes = λ b h. let e = next_other m (2 + b) (omega arith) in omega arith;
        marked = next_marked m;
        stop = (18446744073709551615, (let e = next_other m 1 (omega arith) in let s = stop_most in omega arith), (let l = least_of_most v.lowered in omega arith));
        used = omega arith;
        tickets = omega arith;
        stable = λ b h p. next_other m (2 + b) (omega arith);
        fits = record {
          blocks = λ h. size;
          workers = λ h. fitting.workers live;
          below = f.below;
          claimed = f.claimed;
          published = f.published;
          seen = f.seen;
          least = f.least;
          idle = λ e. absurd (omega arith);
        };
      }

  -- a step that leaves the words, and no count of the view changes
  pub quiet : (u : View) → u.claims ≡ v.claims → u.published ≡ v.published → u.lowered ≡ v.lowered → u.used ≡ v.used → u.tickets ≡ v.tickets → Fits n w words u → Turn n w words words v u
  quiet u c p l us ts f = record {
    long = refl;
    claims = λ x. ap (λ (z : List ℕ). times x z + once_below x (min (get_or words 0 0) n)) c;
    count = ap (λ (z : List ℕ). length z + min (get_or words 0 0) n) c;
    codes = λ b h. ap (λ (z : List (ℕ × ℕ)). get_or words (2 + b) 0 + code_sum b z) (sym p);
    marked = r.marked;
    stop = (18446744073709551615, (let s = stop_most in omega arith), (let e = least_of_most v.lowered in ap least_of l ∙ omega arith));
    used = omega arith;
    tickets = omega arith;
    stable = λ b h q. refl;
    fits = f;
  }

  -- a look at block b that finds k, by whether that is 0
  pub look_turn : (b k : ℕ) → b < n → k ≡ code_at words b → (t : Bool) → nat_eq k 0 ≡ t
      → Turn n w words words v (cond t (record v { steps = v.steps + 1; last = (2 + b, k) }) (record v { seen = v.seen ++ (b, k) ∷ []; steps = v.steps + 1; last = (2 + b, k) }))
  look_turn b k below is true t = let f = fitting in
      quiet _ refl refl refl refl refl (record { blocks = f.blocks; workers = f.workers; below = f.below; claimed = f.claimed; published = f.published; seen = f.seen; least = f.least; idle = λ e. absurd (omega arith) })
  look_turn b k below is false t = let f = fitting in
      let filled : k ≢ 0 = eqb-false k 0 t in
      let high : 2 ^ 63 ≤ k = subst (λ (z : ℕ). 2 ^ 63 ≤ z) (sym is) (r.marked b below (omega arith)) in
      quiet _ refl refl refl refl refl (record {
        blocks = f.blocks;
        workers = f.workers;
        below = f.below;
        claimed = f.claimed;
        published = f.published;
        seen = All-push (IsCode n words) v.seen (b, k) f.seen (below, is, high);
        least = f.least;
        idle = λ e. absurd (omega arith);
      })

  -- a read of the stop
  pub stop_turn : Turn n w words words v (after_stop v (stop_of words))
  stop_turn = let f = fitting in
      quiet _ refl refl refl refl refl (record { blocks = f.blocks; workers = f.workers; below = f.below; claimed = f.claimed; published = f.published; seen = f.seen; least = (let a = f.least in omega arith); idle = λ e. absurd (omega arith) })

  -- a read of the next number
  pub next_turn : Turn n w words words v (after_next v (next_of words))
  next_turn = let f = fitting in
      quiet _ refl refl refl refl refl (record { blocks = f.blocks; workers = f.workers; below = f.below; claimed = f.claimed; published = f.published; seen = f.seen; least = f.least; idle = λ e. absurd (omega arith) })

  -- the stop is lowered to a number
  pub lower_turn : (b : ℕ) → Turn n w words (set words 1 (min (stop_of words) b)) v (after_lower v b (stop_of words))
  lower_turn b =
      let m : ℕ = min (get_or words 1 0) b in
      let l = r.long in
      let now = get_or-set_same words 1 m 0 (omega arith) in
      let next = get_or-set_other words 1 0 m 0 (λ e. omega arith) in
      let code : (j : ℕ) → get_or (set words 1 m) (2 + j) 0 ≡ get_or words (2 + j) 0 = λ j. get_or-set_other words 1 (2 + j) m 0 (λ e. omega arith) in
      let f = still n w words (set words 1 m) v (omega arith) (λ j h p. code j) fitting in
      record {
        long = length-set words 1 m;
        claims = λ x. ap (λ (z : ℕ). times x v.claims + once_below x (min z n)) (sym next);
        count = omega arith;
        codes = λ j h. let e = code j in omega arith;
        marked = λ j h. subst (λ (z : ℕ). 0 < z → 2 ^ 63 ≤ z) (sym (code j)) (r.marked j h);
        stop = (b, now, (let a = least_of-append v.lowered (b ∷ []) in let e = least_of_most v.lowered in omega arith));
        used = omega arith;
        tickets = refl;
        stable = λ j h p. code j;
        fits = record { blocks = f.blocks; workers = f.workers; below = f.below; claimed = f.claimed; published = f.published; seen = f.seen; least = f.least; idle = λ e. absurd (omega arith) };
      }

-- what one pair counts at its own block
pub here_one : (b c : ℕ) → (cond {A = ℕ} (nat_eq b b) 1 0 ≡ 1) × (cond {A = ℕ} (nat_eq b b) c 0 ≡ c)
here_one b c = rw (eq-eqb b b refl) (refl, refl)

-- and at another one
else_none : (b b' c : ℕ) → b ≢ b' → (cond {A = ℕ} (nat_eq b b') 1 0 ≡ 0) × (cond {A = ℕ} (nat_eq b b') c 0 ≡ 0)
else_none b b' c h = rw (ne_eqb b b' h) (refl, refl)

module _ (n w : ℕ) (words : List ℕ) (views : List View) (id : ℕ) (v : View) (r : Balance n w words views) (at : get_elem? views id ≡ some v) (live : 0 < all_tickets v)
    (b code : ℕ) (mine : 0 < times b v.claims) (fresh : pairs_of b v.published ≡ 0) (high : 2 ^ 63 ≤ code) where
  -- a claimed number is a block
  pub claimed_below : b < n
  claimed_below =
      let a = part_le (λ (y : View). times b y.claims) views id v at in let c = r.claims b in
      let m = once_mono b (min (get_or words 0 0) n) n (omega arith) in below_n b n (omega arith)

  -- no view has published it
  unpublished : code_at words b ≡ 0
  unpublished =
      let a = part_le (λ (y : View). times b y.claims) views id v at in let c = r.claims b in let le = once_le b (min (get_or words 0 0) n) in
      r.codes b claimed_below
      ∙ (sole (λ (y : View). code_sum b y.published) (λ (y : View). times b y.claims) views id v at
      (λ j u q z. no_code_sum b u.published (let o' = (r.each j u q).claimed b in omega arith)) (omega arith)
      ∙ no_code_sum b v.published fresh)

  -- the other words stay
  same : (j : ℕ) → j ≢ 2 + b → get_or (set words (2 + b) code) j 0 ≡ get_or words j 0
  same j h = get_or-set_other words (2 + b) j code 0 h

  -- the code is there
  now : get_or (set words (2 + b) code) (2 + b) 0 ≡ code
  now = let l = r.long in let h = claimed_below in get_or-set_same words (2 + b) code 0 (omega arith)

  -- codes that were there stay
  stable : (j : ℕ) → j < n → 0 < code_at words j → code_at (set words (2 + b) code) j ≡ code_at words j
  stable j h p = same (2 + j) (λ e. let z : get_or words (2 + j) 0 ≡ 0 = ap (λ (i : ℕ). get_or words i 0) e ∙ unpublished in omega arith)

  -- the sums of codes change with the words
  coding : (j : ℕ) → Dec (b ≡ j) → get_or (set words (2 + b) code) (2 + j) 0 + code_sum j v.published ≡ get_or words (2 + j) 0 + code_sum j (v.published ++ (b, code) ∷ [])
  coding j (yes e) = subst (λ (i : ℕ). get_or (set words (2 + b) code) (2 + i) 0 + code_sum i v.published ≡ get_or words (2 + i) 0 + code_sum i (v.published ++ (b, code) ∷ [])) e
      (let a = code_sum-append b v.published ((b, code) ∷ []) in let h = (here_one b code).1 in let z = unpublished in let q = now in omega arith)
  coding j (no e) = let a = code_sum-append j v.published ((b, code) ∷ []) in let h = (else_none b j code e).1 in let q = same (2 + j) (λ p. e (omega arith)) in omega arith

  -- codes are marked
  marking : (j : ℕ) → j < n → Dec (b ≡ j) → 0 < get_or (set words (2 + b) code) (2 + j) 0 → 2 ^ 63 ≤ get_or (set words (2 + b) code) (2 + j) 0
  marking j h (yes e) = subst (λ (i : ℕ). 0 < get_or (set words (2 + b) code) (2 + i) 0 → 2 ^ 63 ≤ get_or (set words (2 + b) code) (2 + i) 0) e
      (λ p. subst (λ (z : ℕ). 2 ^ 63 ≤ z) (sym now) high)
  marking j h (no e) = subst (λ (z : ℕ). 0 < z → 2 ^ 63 ≤ z) (sym (same (2 + j) (λ p. e (omega arith)))) (r.marked j h)

  -- each published block is claimed
  owning : (j : ℕ) → Dec (b ≡ j) → pairs_of j (v.published ++ (b, code) ∷ []) ≤ times j v.claims
  owning j (yes e) = subst (λ (i : ℕ). pairs_of i (v.published ++ (b, code) ∷ []) ≤ times i v.claims) e
      (let a = pairs_of-append b v.published ((b, code) ∷ []) in let h = (here_one b code).0 in omega arith)
  owning j (no e) = let a = pairs_of-append j v.published ((b, code) ∷ []) in let h = (else_none b j code e).0 in let o = (r.each id v at).claimed j in omega arith

  -- the code of a block is written
  pub publish_turn : Turn n w words (set words (2 + b) code) v (after_publish v b code)
  publish_turn =
      let one = same 1 (λ e. omega arith) in let first = same 0 (λ e. omega arith) in
      let f = still n w words (set words (2 + b) code) v (omega arith) stable (r.each id v at) in
      record {
        long = length-set words (2 + b) code;
        claims = λ x. ap (λ (z : ℕ). times x v.claims + once_below x (min z n)) (sym first);
        count = omega arith;
        codes = λ j h. coding j (ℕ_discrete b j);
        marked = λ j h. marking j h (ℕ_discrete b j);
        stop = (18446744073709551615, (let s = stop_most n w words views id v r at live in omega arith), (let l = least_of_most v.lowered in omega arith));
        used = omega arith;
        tickets = refl;
        stable = stable;
        fits = record {
          blocks = f.blocks;
          workers = f.workers;
          below = f.below;
          claimed = λ j. owning j (ℕ_discrete b j);
          published = All-push (IsCode n (set words (2 + b) code)) v.published (b, code) f.published (claimed_below, sym now, high);
          seen = f.seen;
          least = f.least;
          idle = λ e. absurd (omega arith);
        };
      }
