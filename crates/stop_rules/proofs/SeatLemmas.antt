-- Seats that are fed, and those that may be fed.
use Rattle.std.proofs.Common.{◌≡◌, ℕ, zero, suc, ◌+◌, ◌<◌, ◌≤◌, List, [], ◌∷◌, ◌++◌, Bool, true, false, ◌&&◌, Some, IsTrue, refl, length, get_or, slice_get, append-nil, set, map, take, drop, ◌∙◌, ap, sym, arith, nat_lt, if◌then◌else◌, add-one}
use Rattle.std.specs.List.{list_all}
use Rattle.std.proofs.lemmas.List.{map-set, get_or-map, length-map, take_all, drop_all}
use Rattle.std.proofs.lemmas.List.Sums.{fold-append}
use Rattle.std.proofs.lemmas.List.Edits.{map_over_more}
use Rattle.stop_rules.specs.declared.observer.Stay.{Stay}
use Rattle.stop_rules.specs.declared.observer.Stay.TheVariants.{Keep, Leave}
use Rattle.stop_rules.specs.Observers.{Observation, longest_run, batches, recorder, observe, is_ready, stay_of}
use Rattle.stop_rules.specs.Seats.{Seated, watching, gone, seat_when, seat_after, seat_after_all, is_ready_seat}
use Rattle.stop_rules.proofs.ListLemmas.{take_one_more}

-- a test that makes an observer stay holds
test_holds : (test : Bool) → (if test then Keep else Leave) ≡ Keep → test ≡ true
test_holds true e = refl
test_holds false e = cc

-- an observer that stays may be fed
stays_ready : (seen : Observation) → stay_of seen ≡ Keep → IsTrue (is_ready seen)
stays_ready (longest_run run best) e = refl
stays_ready (batches size seen trues full least most) e = refl
stays_ready (recorder most bits) e = test_holds (nat_lt (length bits) most) e

-- the seat of an observer that stays or leaves is ready
ready_when : (stay : Stay) (seen : Observation) → (stay ≡ Keep → IsTrue (is_ready seen)) → IsTrue (is_ready_seat (seat_when stay seen))
ready_when Keep seen h = h refl
ready_when Leave seen h = refl

-- a seat that was fed may be fed
pub ready_after : (seat : Seated) (bit : Bool) → IsTrue (is_ready_seat (seat_after seat bit))
ready_after (watching seen) bit = ready_when (stay_of (observe seen bit)) (observe seen bit) (stays_ready (observe seen bit))
ready_after (gone line) bit = refl

-- a seat that was ready is ready after any outcomes
pub ready_after_all : (bits : List Bool) (seat : Seated) → IsTrue (is_ready_seat seat) → IsTrue (is_ready_seat (seat_after_all bits seat))
ready_after_all [] seat ready = ready
ready_after_all (bit ∷ bits) seat ready = ready_after_all bits (seat_after seat bit) (ready_after seat bit)

-- a test and another one that both hold
both_hold : (a b : Bool) → (a && b) ≡ true → (a ≡ true) × (b ≡ true)
both_hold true true e = (refl, refl)
both_hold true false e = cc
both_hold false b e = cc

-- seats that were ready are ready after any outcomes
pub all_ready_after_all : (bits : List Bool) (seats : List Seated) → IsTrue (list_all is_ready_seat seats) → IsTrue (list_all is_ready_seat (map (seat_after_all bits) seats))
all_ready_after_all bits [] ready = refl
all_ready_after_all bits (seat ∷ seats) ready =
    let both = both_hold (is_ready_seat seat) (list_all is_ready_seat seats) ready in
    let here : is_ready_seat (seat_after_all bits seat) ≡ true = ready_after_all bits seat both.0 in
    rw here (all_ready_after_all bits seats both.1)

-- a seat after one outcome of a block more
pub seat_after_one_more : (truths : List Bool) (position : ℕ) (truth : Bool) (first now new : Seated) → slice_get truths position ≡ Some truth
    → now ≡ seat_after_all (take position truths) first → new ≡ seat_after now truth → new ≡ seat_after_all (take (position + 1) truths) first
seat_after_one_more truths position truth first now new is before after =
    let longer : take (position + 1) truths ≡ take position truths ++ truth ∷ [] = rw add-one (take_one_more position truths truth is) in
    after ∙ (ap (λ (v : Seated). seat_after v truth) before ∙ (sym (fold-append seat_after first (take position truths) (truth ∷ [])) ∙ ap (λ (v : List Bool). seat_after_all v first) (sym longer)))

-- elements seen by what they stand for: the one at a place has changed, like those before it
pub changed_one_more : {X W : Type 0} (seen : X → W) (f : W → W) (first items : List X) (i : ℕ) (x y : X) → i < length first → map seen items ≡ map f (take i (map seen first)) ++ drop i (map seen first)
    → i < length items → seen y ≡ f (seen (get_or items i x)) → map seen (set items i y) ≡ map f (take (i + 1) (map seen first)) ++ drop (i + 1) (map seen first)
changed_one_more seen f first items i x y within so_far inside new =
    let here : i < length (map seen first) = omega (arith, length-map first seen) in
    map-set seen items i y ∙ ap (set (map seen items) i) new
    ∙ map_over_more f (map seen first) (map seen items) i (seen (get_or items i x)) here so_far (sym (get_or-map seen items i x (seen (get_or items i x)) inside))

-- a test that each passed still passes at a place up to which others have changed
pub passes_at : {X W : Type 0} (seen : X → W) (f : W → W) (p : W → Bool) (first : List W) (items : List X) (i : ℕ) (x : X) → IsTrue (list_all p first) → map seen items ≡ map f (take i first) ++ drop i first
    → i < length items → IsTrue (p (seen (get_or items i x)))
passes_at seen f p first [] i x all same h = absurd (omega arith)
passes_at seen f p [] (y ∷ items) zero x all same h = cc
passes_at seen f p [] (y ∷ items) (suc i) x all same h = cc
passes_at seen f p (w ∷ first) (y ∷ items) zero x all same h =
    let here : seen y ≡ w = cc in rw here (both_hold (p w) (list_all p first) all).0
passes_at seen f p (w ∷ first) (y ∷ items) (suc i) x all same h =
    let rest : map seen items ≡ map f (take i first) ++ drop i first = cc in
    passes_at seen f p first items i x (both_hold (p w) (list_all p first) all).1 rest (omega arith)

-- at the end each has changed
pub all_changed : {X W : Type 0} (seen : X → W) (f : W → W) (first : List X) (now : List W) (i : ℕ) → length first ≤ i → now ≡ map f (take i (map seen first)) ++ drop i (map seen first) → now ≡ map f (map seen first)
all_changed seen f first now i h e =
    let long : length (map seen first) ≤ i = let l = length-map first seen in omega (arith, l, h) in
    e ∙ rw (take_all i (map seen first) long, drop_all i (map seen first) long, append-nil (map f (map seen first))) refl

-- watchers that may be fed have seats that may be fed
pub all_ready-watching : {B : Type 0} (look : B → Observation) (watch : List B) → IsTrue (list_all is_ready (map look watch)) → IsTrue (list_all is_ready_seat (map (λ b. watching (look b)) watch))
all_ready-watching look [] ready = ready
all_ready-watching look (b ∷ watch) ready =
    let both = both_hold (is_ready (look b)) (list_all is_ready (map look watch)) ready in
    let here : is_ready (look b) ≡ true = both.0 in
    rw here (all_ready-watching look watch both.1)
