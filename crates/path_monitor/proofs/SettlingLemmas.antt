-- When pairs settle a path formula, told pair by pair.
use Rattle.std.proofs.Common.{◌≡◌, ℕ, suc, ◌+◌, ◌<◌, ◌≤◌, Bool, true, false, List, [], ◌∷◌, ◌++◌, length, replicate, refl, sym, ◌∙◌, ap, subst, inl, inr, arith, length-append, append_assoc, append-nil}
use Rattle.std.specs.Prelude.{Some, option_map}
use Rattle.std.proofs.lemmas.Bool.{cases_lt}
use Rattle.std.proofs.lemmas.Bool.Decides.{eqb_tells}
use Rattle.std.proofs.lemmas.List.{length-replicate}
use Rattle.chain_model.specs.declared.job.PathKind.{PathKind}
use Rattle.chain_model.specs.declared.job.PathKind.TheVariants.{Next, Until, Finally, Globally}
use Rattle.chain_model.specs.Trace.{Pair}
use Rattle.chain_model.specs.Paths.{horizon_of}
use Rattle.chain_model.specs.Settling.{FirstAt, SecondAt, HoldsUntil, HoldsFinally, Settles}
use Rattle.path_monitor.specs.declared.step.Step.{Step}
use Rattle.path_monitor.specs.declared.step.Step.TheVariants.{True, False, More}
use Rattle.path_monitor.specs.Verdicts.{verdict_of}
use Rattle.path_monitor.specs.Watching.{IsOpen, Judges}
use Rattle.path_monitor.proofs.PairLemmas.{in_first, in_replicate, right_after}

-- the pairs at which a formula can still go either way
abbrev pub IsUndecided : PathKind → List Pair → Type 0
IsUndecided Next pairs = length pairs ≤ 1
IsUndecided (Finally k) pairs = (length pairs ≤ k) × ((i : ℕ) → i < length pairs → ¬ SecondAt pairs i)
IsUndecided (Globally k) pairs = (length pairs ≤ k) × ((i : ℕ) → i < length pairs → SecondAt pairs i)
IsUndecided (Until k) pairs = (length pairs ≤ k) × ((i : ℕ) → i < length pairs → ¬ SecondAt pairs i) × ((i : ℕ) → i < length pairs → FirstAt pairs i)

-- what is said of pairs of which the last was seen
abbrev pub Tells : PathKind → List Pair → Step → Type 0
Tells kind pairs True = Settles kind pairs true
Tells kind pairs False = Settles kind pairs false
Tells kind pairs More = IsUndecided kind pairs

-- a formula that holds at a position holds there with more pairs behind
second_more : (pairs more : List Pair) (i : ℕ) → i < length pairs → SecondAt pairs i → SecondAt (pairs ++ more) i
second_more pairs more i within second = ap (option_map (λ (p : Pair). p.1)) (in_first pairs more i within) ∙ second

first_more : (pairs more : List Pair) (i : ℕ) → i < length pairs → FirstAt pairs i → FirstAt (pairs ++ more) i
first_more pairs more i within first = ap (option_map (λ (p : Pair). p.0)) (in_first pairs more i within) ∙ first

second_less : (pairs more : List Pair) (i : ℕ) → i < length pairs → SecondAt (pairs ++ more) i → SecondAt pairs i
second_less pairs more i within second = ap (option_map (λ (p : Pair). p.1)) (sym (in_first pairs more i within)) ∙ second

first_less : (pairs more : List Pair) (i : ℕ) → i < length pairs → FirstAt (pairs ++ more) i → FirstAt pairs i
first_less pairs more i within first = ap (option_map (λ (p : Pair). p.0)) (sym (in_first pairs more i within)) ∙ first

-- the pair that comes after others
second_last : (pairs : List Pair) (x : Pair) → x.1 ≡ true → SecondAt (pairs ++ (x ∷ [])) (length pairs)
second_last pairs x is = ap (option_map (λ (p : Pair). p.1)) (right_after pairs [] x) ∙ ap Some is

first_last : (pairs : List Pair) (x : Pair) → x.0 ≡ true → FirstAt (pairs ++ (x ∷ [])) (length pairs)
first_last pairs x is = ap (option_map (λ (p : Pair). p.0)) (right_after pairs [] x) ∙ ap Some is

no_second_last : (pairs : List Pair) (x : Pair) → x.1 ≡ false → ¬ SecondAt (pairs ++ (x ∷ [])) (length pairs)
no_second_last pairs x is second =
    let both : Some true ≡ Some false = sym second ∙ (ap (option_map (λ (p : Pair). p.1)) (right_after pairs [] x) ∙ ap Some is) in
    cc

no_first_last : (pairs : List Pair) (x : Pair) → x.0 ≡ false → ¬ FirstAt (pairs ++ (x ∷ [])) (length pairs)
no_first_last pairs x is first =
    let both : Some true ≡ Some false = sym first ∙ (ap (option_map (λ (p : Pair). p.0)) (right_after pairs [] x) ∙ ap Some is) in
    cc

-- one pair more
long : (pairs : List Pair) (x : Pair) → length (pairs ++ (x ∷ [])) ≡ suc (length pairs)
long pairs x = let e : length (pairs ++ (x ∷ [])) ≡ length pairs + 1 = length-append pairs (x ∷ []) in omega (arith, e)

-- what holds of each pair so far and of the last one holds of each
each_more : (P : ℕ → Type 0) (n : ℕ) → ((i : ℕ) → i < n → P i) → P n → (i : ℕ) → i < suc n → P i
each_more P n before here i within = elim (cases_lt i n) [
  | inl earlier ↦ before i earlier
  | inr later ↦ let same : n ≡ i = omega (arith, within, later) in subst P same here
]

-- pairs that go on for long, each with this truth of the second formula
abbrev pub going_on : ℕ → Bool → List Pair
going_on h truth = replicate (suc (suc h)) (true, truth)

going_on_long : (pairs : List Pair) (h : ℕ) (truth : Bool) → h < length (pairs ++ going_on h truth)
going_on_long pairs h truth =
    let e : length (pairs ++ going_on h truth) ≡ length pairs + suc (suc h) =
    length-append pairs (going_on h truth) ∙ ap (λ (n : ℕ). length pairs + n) (length-replicate (suc (suc h)) (true, truth)) in
    omega (arith, e)

second_then : (pairs : List Pair) (h i : ℕ) → length pairs ≤ i → i ≤ suc h → SecondAt (pairs ++ going_on h true) i
second_then pairs h i from to = ap (option_map (λ (p : Pair). p.1)) (in_replicate pairs (true, true) (suc (suc h)) i from (omega (arith, from, to)))

no_second_then : (pairs : List Pair) (h i : ℕ) → length pairs ≤ i → i ≤ suc h → ¬ SecondAt (pairs ++ going_on h false) i
no_second_then pairs h i from to second =
    let both : Some true ≡ Some false = sym second ∙ ap (option_map (λ (p : Pair). p.1)) (in_replicate pairs (true, false) (suc (suc h)) i from (omega (arith, from, to))) in
    cc

-- nowhere among the pairs, and nowhere behind
no_second : (pairs : List Pair) (h i : ℕ) → ((j : ℕ) → j < length pairs → ¬ SecondAt pairs j) → i ≤ suc h → ¬ SecondAt (pairs ++ going_on h false) i
no_second pairs h i before to second = elim (cases_lt i (length pairs)) [
  | inl earlier ↦ before i earlier (second_less pairs (going_on h false) i earlier second)
  | inr later ↦ no_second_then pairs h i later to second
]

-- everywhere among the pairs, and everywhere behind
all_second : (pairs : List Pair) (h i : ℕ) → ((j : ℕ) → j < length pairs → SecondAt pairs j) → i ≤ suc h → SecondAt (pairs ++ going_on h true) i
all_second pairs h i before to = elim (cases_lt i (length pairs)) [
  | inl earlier ↦ second_more pairs (going_on h true) i earlier (before i earlier)
  | inr later ↦ second_then pairs h i later to
]

-- where a formula can still go either way nothing is settled
pub undecided_is_open : (kind : PathKind) (pairs : List Pair) → IsUndecided kind pairs → IsOpen kind pairs
undecided_is_open Next pairs short true settles = no_second_then pairs 1 1 short (omega arith) (settles (going_on 1 false) (going_on_long pairs 1 false))
undecided_is_open Next pairs short false settles = settles (going_on 1 true) (going_on_long pairs 1 true) (second_then pairs 1 1 short (omega arith))
undecided_is_open (Finally k) pairs u true settles =
    let holds : HoldsFinally k (pairs ++ going_on k false) = settles (going_on k false) (going_on_long pairs k false) in
    no_second pairs k holds.position u.1 (omega (arith, holds.within)) holds.second
undecided_is_open (Finally k) pairs u false settles =
    settles (going_on k true) (going_on_long pairs k true)
    (record { position = length pairs; within = u.0; second = second_then pairs k (length pairs) (omega arith) (omega (arith, u.0)) })
undecided_is_open (Globally k) pairs u true settles =
    no_second_then pairs k (length pairs) (omega arith) (omega (arith, u.0)) (settles (going_on k false) (going_on_long pairs k false) (length pairs) u.0)
undecided_is_open (Globally k) pairs u false settles =
    settles (going_on k true) (going_on_long pairs k true) (λ i within. all_second pairs k i u.1 (omega (arith, within)))
undecided_is_open (Until k) pairs u true settles =
    let holds : HoldsUntil k (pairs ++ going_on k false) = settles (going_on k false) (going_on_long pairs k false) in
    no_second pairs k holds.position u.1 (omega (arith, holds.within)) holds.second
undecided_is_open (Until k) pairs u false settles =
    settles (going_on k true) (going_on_long pairs k true)
    (record {
      position = length pairs;
      within = u.0;
      second = second_then pairs k (length pairs) (omega arith) (omega (arith, u.0));
      first = λ i before. first_more pairs (going_on k true) i before (u.2 i before);
    })

-- the next pair: at number 1 it settles `X`
next_step : (pairs : List Pair) (x : Pair) → IsUndecided Next pairs → Tells Next (pairs ++ (x ∷ [])) (verdict_of Next (length pairs) x.0 x.1)
next_step [] x short = omega arith
next_step (y ∷ []) (p, true) short = λ more longer. refl
next_step (y ∷ []) (p, false) short = λ more longer second. cc
next_step (y ∷ (z ∷ pairs)) x short = absurd (omega (arith, short))

-- the second formula at the last pair settles a formula of existence
exists_here : (k : ℕ) (pairs : List Pair) (x : Pair) → length pairs ≤ k → x.1 ≡ true → Settles (Finally k) (pairs ++ (x ∷ [])) true
exists_here k pairs x within is = λ more longer. record {
  position = length pairs;
  within = within;
  second = second_more (pairs ++ (x ∷ [])) more (length pairs) (let e = long pairs x in omega (arith, e)) (second_last pairs x is);
}

finally_step : (k : ℕ) (pairs : List Pair) (x : Pair) (q : Bool) → x.1 ≡ q → IsUndecided (Finally k) pairs
    → Tells (Finally k) (pairs ++ (x ∷ [])) (verdict_of (Finally k) (length pairs) x.0 q)
finally_step k pairs x true is u = exists_here k pairs x u.0 is
finally_step k pairs x false is u =
    let never : (i : ℕ) → i < suc (length pairs) → ¬ SecondAt (pairs ++ (x ∷ [])) i =
    each_more (λ i. ¬ SecondAt (pairs ++ (x ∷ [])) i) (length pairs)
    (λ i within second. u.1 i within (second_less pairs (x ∷ []) i within second)) (no_second_last pairs x is) in
    let e = long pairs x in
    elim (eqb_tells (length pairs) k) [
      | inl (hit, same) ↦ rw hit (λ more longer holds. never holds.position (omega (arith, same, holds.within))
          (second_less (pairs ++ (x ∷ [])) more holds.position (omega (arith, e, same, holds.within)) holds.second))
      | inr (miss, other) ↦ rw miss (omega (arith, e, u.0, other), λ i within. never i (omega (arith, e, within)))
    ]

globally_step : (k : ℕ) (pairs : List Pair) (x : Pair) (q : Bool) → x.1 ≡ q → IsUndecided (Globally k) pairs
    → Tells (Globally k) (pairs ++ (x ∷ [])) (verdict_of (Globally k) (length pairs) x.0 q)
globally_step k pairs x false is u = λ more longer holds.
    no_second_last pairs x is
    (second_less (pairs ++ (x ∷ [])) more (length pairs) (let e = long pairs x in omega (arith, e)) (holds (length pairs) u.0))
globally_step k pairs x true is u =
    let always : (i : ℕ) → i < suc (length pairs) → SecondAt (pairs ++ (x ∷ [])) i =
    each_more (λ i. SecondAt (pairs ++ (x ∷ [])) i) (length pairs)
    (λ i within. second_more pairs (x ∷ []) i within (u.1 i within)) (second_last pairs x is) in
    let e = long pairs x in
    elim (eqb_tells (length pairs) k) [
      | inl (hit, same) ↦ rw hit (λ more longer i within.
          second_more (pairs ++ (x ∷ [])) more i (omega (arith, e, same, within)) (always i (omega (arith, same, within))))
      | inr (miss, other) ↦ rw miss (omega (arith, e, u.0, other), λ i within. always i (omega (arith, e, within)))
    ]

-- a formula of until fails where neither formula holds at a pair, and none has held before
until_fails : (k : ℕ) (pairs : List Pair) (x : Pair) → x.0 ≡ false → x.1 ≡ false → ((i : ℕ) → i < length pairs → ¬ SecondAt pairs i)
    → Settles (Until k) (pairs ++ (x ∷ [])) false
until_fails k pairs x first second before = λ more longer holds.
    let e = long pairs x in
    let never : (i : ℕ) → i < suc (length pairs) → ¬ SecondAt (pairs ++ (x ∷ [])) i =
    each_more (λ i. ¬ SecondAt (pairs ++ (x ∷ [])) i) (length pairs)
    (λ i within s. before i within (second_less pairs (x ∷ []) i within s)) (no_second_last pairs x second) in
    elim (cases_lt holds.position (suc (length pairs))) [
      | inl early ↦ never holds.position early (second_less (pairs ++ (x ∷ [])) more holds.position (omega (arith, e, early)) holds.second)
      | inr late ↦ no_first_last pairs x first (first_less (pairs ++ (x ∷ [])) more (length pairs) (omega (arith, e)) (holds.first (length pairs) (omega (arith, late))))
    ]

until_step : (k : ℕ) (pairs : List Pair) (x : Pair) (p q : Bool) → x.0 ≡ p → x.1 ≡ q → IsUndecided (Until k) pairs
    → Tells (Until k) (pairs ++ (x ∷ [])) (verdict_of (Until k) (length pairs) p q)
until_step k pairs x p true is_first is u = λ more longer.
    let e = long pairs x in
    record {
      position = length pairs;
      within = u.0;
      second = second_more (pairs ++ (x ∷ [])) more (length pairs) (omega (arith, e)) (second_last pairs x is);
      first = λ i before. first_more (pairs ++ (x ∷ [])) more i (omega (arith, e, before)) (first_more pairs (x ∷ []) i before (u.2 i before));
    }
until_step k pairs x false false is_first is u = elim (eqb_tells (length pairs) k) [
  | inl (hit, same) ↦ rw hit (until_fails k pairs x is_first is u.1)
  | inr (miss, other) ↦ rw miss (until_fails k pairs x is_first is u.1)
]
until_step k pairs x true false is_first is u =
    let never : (i : ℕ) → i < suc (length pairs) → ¬ SecondAt (pairs ++ (x ∷ [])) i =
    each_more (λ i. ¬ SecondAt (pairs ++ (x ∷ [])) i) (length pairs)
    (λ i within s. u.1 i within (second_less pairs (x ∷ []) i within s)) (no_second_last pairs x is) in
    let firsts : (i : ℕ) → i < suc (length pairs) → FirstAt (pairs ++ (x ∷ [])) i =
    each_more (λ i. FirstAt (pairs ++ (x ∷ [])) i) (length pairs)
    (λ i within. first_more pairs (x ∷ []) i within (u.2 i within)) (first_last pairs x is_first) in
    let e = long pairs x in
    elim (eqb_tells (length pairs) k) [
      | inl (hit, same) ↦ rw hit (λ more longer holds. never holds.position (omega (arith, same, holds.within))
          (second_less (pairs ++ (x ∷ [])) more holds.position (omega (arith, e, same, holds.within)) holds.second))
      | inr (miss, other) ↦ rw miss (omega (arith, e, u.0, other), (λ i within. never i (omega (arith, e, within))), λ i within. firsts i (omega (arith, e, within)))
    ]

-- one pair more
pub undecided_step : (kind : PathKind) (pairs : List Pair) (p q : Bool) → IsUndecided kind pairs
    → Tells kind (pairs ++ ((p, q) ∷ [])) (verdict_of kind (length pairs) p q)
undecided_step Next pairs p q u = next_step pairs (p, q) u
undecided_step (Finally k) pairs p q u = finally_step k pairs (p, q) q refl u
undecided_step (Globally k) pairs p q u = globally_step k pairs (p, q) q refl u
undecided_step (Until k) pairs p q u = until_step k pairs (p, q) p q refl refl u

-- nothing is decided before the first pair
pub undecided_at_first : (kind : PathKind) → IsUndecided kind []
undecided_at_first Next = omega arith
undecided_at_first (Finally k) = (omega arith, λ i within. absurd (omega (arith, within)))
undecided_at_first (Globally k) = (omega arith, λ i within. absurd (omega (arith, within)))
undecided_at_first (Until k) = (omega arith, (λ i within. absurd (omega (arith, within))), λ i within. absurd (omega (arith, within)))

-- pairs that settle a formula settle it with more pairs behind
settles_more : (kind : PathKind) (pairs more : List Pair) (truth : Bool) → Settles kind pairs truth → Settles kind (pairs ++ more) truth
settles_more kind pairs more true settles = λ further longer.
    let e : (pairs ++ more) ++ further ≡ pairs ++ (more ++ further) = append_assoc pairs more further in
    rw e (settles (more ++ further) (rw (← e) longer))
settles_more kind pairs more false settles = λ further longer.
    let e : (pairs ++ more) ++ further ≡ pairs ++ (more ++ further) = append_assoc pairs more further in
    rw e (settles (more ++ further) (rw (← e) longer))

-- pairs after some at which a formula can still go either way: it still can, or they settle it
data Status (kind : PathKind) (pairs : List Pair) : Type 0 where
  going : IsUndecided kind pairs → Status kind pairs
  ended : (truth : Bool) → Settles kind pairs truth → Status kind pairs

status_of : (kind : PathKind) (pairs : List Pair) (step : Step) → Tells kind pairs step → Status kind pairs
status_of kind pairs True tells = ended true tells
status_of kind pairs False tells = ended false tells
status_of kind pairs More tells = going tells

status_after : (kind : PathKind) (before after : List Pair) → Status kind before → Status kind (before ++ after)
status_after kind before [] status = rw (append-nil before) status
status_after kind before (x ∷ after) (ended truth settles) = ended truth (settles_more kind before (x ∷ after) truth settles)
status_after kind before (x ∷ after) (going u) =
    let next = status_of kind (before ++ (x ∷ [])) (verdict_of kind (length before) x.0 x.1) (undecided_step kind before x.0 x.1 u) in
    rw (← append_assoc before (x ∷ []) after) (status_after kind (before ++ (x ∷ [])) after next)

-- where nothing is settled a formula can still go either way
pub open_is_undecided : (kind : PathKind) (pairs : List Pair) → IsOpen kind pairs → IsUndecided kind pairs
open_is_undecided kind pairs unsettled = elim (status_after kind [] pairs (going (undecided_at_first kind))) [
  | going u ↦ u
  | ended truth settles ↦ absurd (unsettled truth settles)
]

-- what is said of the last pair is what the pairs say
pub judged : (kind : PathKind) (pairs : List Pair) (step : Step) → Tells kind pairs step → Judges kind pairs step
judged kind pairs True tells = tells
judged kind pairs False tells = tells
judged kind pairs More tells = undecided_is_open kind pairs tells

-- pairs at which a formula can still go either way are not more than its horizon
pub undecided_is_short : (kind : PathKind) (pairs : List Pair) → IsUndecided kind pairs → length pairs < horizon_of kind + 1
undecided_is_short Next pairs u = omega (arith, u)
undecided_is_short (Finally k) pairs u = let short = u.0 in omega (arith, short)
undecided_is_short (Globally k) pairs u = let short = u.0 in omega (arith, short)
undecided_is_short (Until k) pairs u = let short = u.0 in omega (arith, short)

-- no pairs settle a formula both ways
pub settled_apart : (kind : PathKind) (pairs : List Pair) → Settles kind pairs true → Settles kind pairs false → ⊥
settled_apart kind pairs holds fails =
    let h = horizon_of kind in
    fails (going_on h true) (going_on_long pairs h true) (holds (going_on h true) (going_on_long pairs h true))
