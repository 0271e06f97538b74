-- A view is cut in two, and two are put together: the balance stays.
use Rattle.std.proofs.Common.{◌≡◌, ◌≢◌, ℕ, ◌+◌, ◌<◌, ◌≤◌, ⊎_elim, List, [], ◌∷◌, ◌++◌, length, set, sym, refl, ◌∙◌, subst, arith, zero-le, length-append}
use mathlib.Core.Option.{some}
use lib.ListN.{get_elem?}
use Rattle.std.proofs.lemmas.List.Elements.{All-append, All-nil}
use Rattle.atomic_table.proofs.Lists.{at_set, at_snoc, set_else}
use Rattle.block_board.specs.declared.view.View.{View}
use Rattle.block_board.specs.Counts.{times, least_of, total}
use Rattle.block_board.specs.Steps.{all_tickets, cut, given, merged, spent}
use Rattle.block_board.specs.Race.{stop_of}
use Rattle.block_board.proofs.CountLemmas.{code_sum, total-set, total-push, lowest-set, lowest-push, lowest-unset, times-append, pairs_of-append, code_sum-append, least_of-append, least_of_most, lowest_most, lowest_le, set_there}
use Rattle.block_board.proofs.Balance.{IsCode, Fits, Balance}

-- a sum stays where a part is cut in two
cut_total : (f : View → ℕ) (l : List View) (i : ℕ) (v a b : View) → get_elem? l i ≡ some v → f v ≡ f a + f b → total f (set l i a ++ b ∷ []) ≡ total f l
cut_total f l i v a b at e = let s = total-set f l i v a at in let t = total-push f (set l i a) b in omega arith

-- tickets are handed over
pub cut_kept : (n w : ℕ) (words : List ℕ) (views : List View) (id : ℕ) (v : View) (t : ℕ) → Balance n w words views → get_elem? views id ≡ some v → 1 ≤ t → t < v.tickets
    → Balance n w words (set views id (cut v t) ++ given v t ∷ [])
cut_kept n w words views id v t r at some_t more =
    let f = r.each id v at in
    let size = f.blocks (omega arith) in
    let crew = f.workers (omega arith) in
    let top : stop_of words ≤ 18446744073709551615 = (let e = r.stop in let m = lowest_most (λ (y : View). least_of y.lowered) views in omega arith) in
    record {
      room = r.room;
      long = r.long;
      claims = λ x. cut_total (λ (y : View). times x y.claims) views id v (cut v t) (given v t) at (omega arith) ∙ r.claims x;
      count = cut_total (λ (y : View). length y.claims) views id v (cut v t) (given v t) at (omega arith) ∙ r.count;
      codes = λ b h. r.codes b h ∙ sym (cut_total (λ (y : View). code_sum b y.published) views id v (cut v t) (given v t) at (omega arith));
      marked = r.marked;
      stop = let a = lowest-set (λ (y : View). least_of y.lowered) views id v (cut v t) 18446744073709551615 at (let l = least_of_most v.lowered in omega arith) in
          let b = lowest-push (λ (y : View). least_of y.lowered) (set views id (cut v t)) (given v t) in
          let e = r.stop in omega arith;
      used = (let c = cut_total (λ (y : View). y.used) views id v (cut v t) (given v t) at (omega arith) in let e = r.used in omega arith);
      tickets = cut_total all_tickets views id v (cut v t) (given v t) at (omega arith) ∙ r.tickets;
      each = λ i x e. ⊎_elim
          (λ p. ⊎_elim
          (λ q. subst (Fits n w words) q.1 (record { blocks = λ h. size; workers = λ h. crew; below = f.below; claimed = f.claimed; published = f.published; seen = f.seen; least = f.least; idle = λ z. absurd (omega arith) }))
          (λ q. r.each i x q.1) (at_set views id i (cut v t) x p))
          (λ q. subst (Fits n w words) q (record {
            blocks = λ h. size;
            workers = λ h. crew;
            below = All-nil (λ (k : ℕ). k < n);
            claimed = λ b. zero-le;
            published = All-nil (IsCode n words);
            seen = All-nil (IsCode n words);
            least = top;
            idle = λ z. absurd (omega arith);
          }))
          (at_snoc (set views id (cut v t)) (given v t) x i e);
    }

-- a sum stays where two parts are put together
both_total : (f : View → ℕ) (l : List View) (i j : ℕ) (v u b s : View) → get_elem? l i ≡ some v → get_elem? (set l i b) j ≡ some u → f b ≡ f v + f u → f s ≡ 0
    → total f (set (set l i b) j s) ≡ total f l
both_total f l i j v u b s at there e z = let p = total-set f l i v b at in let q = total-set f (set l i b) j u s there in omega arith

-- a seat takes in another one
pub merge_kept : (n w : ℕ) (words : List ℕ) (views : List View) (id other : ℕ) (v u : View) → Balance n w words views → get_elem? views id ≡ some v → get_elem? views other ≡ some u
    → other ≢ id → 0 < all_tickets v → 0 < all_tickets u → Balance n w words (set (set views id (merged v u)) other spent)
merge_kept n w words views id other v u r at old apart live alive =
    let b : View = merged v u in
    let there : get_elem? (set views id b) other ≡ some u = set_else views id other b apart ∙ old in
    let f = r.each id v at in
    let g = r.each other u old in
    let size = f.blocks live in
    let crew = f.workers live in
    let L : View → ℕ = λ y. least_of y.lowered in
    let here : get_elem? (set (set views id b) other spent) id ≡ some b = set_else (set views id b) other id spent (λ e. apart (sym e)) ∙ set_there views id v b at in
    record {
      room = r.room;
      long = r.long;
      claims = λ x. both_total (λ (y : View). times x y.claims) views id other v u b spent at there (times-append x v.claims u.claims) refl ∙ r.claims x;
      count = both_total (λ (y : View). length y.claims) views id other v u b spent at there (length-append v.claims u.claims) refl ∙ r.count;
      codes = λ c h. r.codes c h ∙ sym (both_total (λ (y : View). code_sum c y.published) views id other v u b spent at there (code_sum-append c v.published u.published) refl);
      marked = r.marked;
      stop =
          let a = lowest-set L views id v b (least_of u.lowered) at (least_of-append v.lowered u.lowered) in
          let d = lowest-unset L (set views id b) other u spent there refl in
          let le = lowest_le L (set (set views id b) other spent) id b here in
          let lb = least_of-append v.lowered u.lowered in
          let lv = lowest_le L views id v at in
          let lu = lowest_le L views other u old in
          let e = r.stop in omega arith;
      used = (let c = both_total (λ (y : View). y.used) views id other v u b spent at there refl refl in let e = r.used in omega arith);
      tickets = both_total all_tickets views id other v u b spent at there (omega arith) refl ∙ r.tickets;
      each = λ i x e. ⊎_elim
          (λ q. subst (Fits n w words) q.1 (record {
            blocks = λ h. absurd (omega arith);
            workers = λ h. absurd (omega arith);
            below = All-nil (λ (k : ℕ). k < n);
            claimed = λ c. zero-le;
            published = All-nil (IsCode n words);
            seen = All-nil (IsCode n words);
            least = (let c = r.stop in let m = lowest_most L views in omega arith);
            idle = λ z. refl;
          }))
          (λ p. ⊎_elim
          (λ q. subst (Fits n w words) q.1 (record {
            blocks = λ h. size;
            workers = λ h. crew;
            below = All-append (λ (k : ℕ). k < n) v.claims u.claims f.below g.below;
            claimed = λ c. let pa = pairs_of-append c v.published u.published in let ta = times-append c v.claims u.claims in let o = f.claimed c in let o' = g.claimed c in omega arith;
            published = All-append (IsCode n words) v.published u.published f.published g.published;
            seen = All-append (IsCode n words) v.seen u.seen f.seen g.seen;
            least = (let a = f.least in let c = g.least in omega arith);
            idle = λ z. absurd (omega arith);
          }))
          (λ q. r.each i x q.1) (at_set views id i b x p.1))
          (at_set (set views id b) other i spent x e);
    }
