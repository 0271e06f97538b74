-- A trace has at most one outcome: lists of its first pairs are prefixes of one another.
use Rattle.std.proofs.Common.{◌≡◌, ℕ, ◌+◌, ◌<◌, ◌≤◌, suc, Bool, true, false, List, [], ◌∷◌, ◌++◌, length, take, replicate, refl, subst, inl, inr, arith, length-append}
use Rattle.std.specs.Prelude.{Some, Result, Ok, Err, slice_get}
use Rattle.std.proofs.lemmas.Bool.{cases_lt, cases_order}
use Rattle.std.proofs.lemmas.List.{take_all, length-replicate}
use Rattle.std.proofs.lemmas.Option.{slice_get_cases}
use Rattle.chain_model.specs.declared.job.Job.{Job}
use Rattle.chain_model.specs.declared.job.PathKind.{PathKind}
use Rattle.chain_model.specs.declared.outcome.TraceFault.{TraceFault}
use Rattle.chain_model.specs.declared.outcome.Outcome.{Outcome}
use Rattle.chain_model.specs.declared.outcome.Outcome.TheVariants.{True, False, Fault}
use Rattle.chain_model.specs.Paths.{horizon_of}
use Rattle.chain_model.specs.Trace.{Pair, pair_at}
use Rattle.chain_model.specs.Settling.{Settles}
use Rattle.chain_model.specs.Outcome.{AreFirstPairs, NoneSettles, HasValue, HasFault, IsOutcome}

-- lists of the first values of one function: the shorter is a prefix of the longer
pub same_front : {X E : Type 0} (f : ℕ → Result X E) (xs ys : List X)
    → ((k : ℕ) (x : X) → slice_get xs k ≡ Some x → f k ≡ Ok x)
    → ((k : ℕ) (y : X) → slice_get ys k ≡ Some y → f k ≡ Ok y)
    → length xs ≤ length ys → xs ≡ take (length xs) ys
same_front f [] ys first second short = refl
same_front f (x ∷ xs) [] first second short = absurd (omega arith)
same_front {X} {E} f (x ∷ xs) (y ∷ ys) first second short =
    let at_first : f 0 ≡ Ok x = first 0 x refl in
    let at_second : f 0 ≡ Ok y = second 0 y refl in
    let head : x ≡ y = cc in
    let tail : xs ≡ take (length xs) ys =
    same_front {X = X} {E = E} (λ k. f (suc k)) xs ys (λ k p e. first (suc k) p e) (λ k p e. second (suc k) p e) (omega arith) in
    cc

-- pairs settle a formula with one value at most, since there is a list that begins with them
pub settles_once : (kind : PathKind) (pairs : List Pair) → Settles kind pairs true → Settles kind pairs false → ⊥
settles_once kind pairs as_true as_false =
    let pair : Pair = (true, true) in
    let more : List Pair = replicate (suc (horizon_of kind)) pair in
    let counted : length more ≡ suc (horizon_of kind) = length-replicate (suc (horizon_of kind)) pair in
    let together : length (pairs ++ more) ≡ length pairs + length more = length-append pairs more in
    let long : horizon_of kind < length (pairs ++ more) = omega arith in
    as_false more long (as_true more long)

-- pairs that settle a formula with two values settle it with equal ones
settles_same : (kind : PathKind) (pairs : List Pair) (s t : Bool) → Settles kind pairs s → Settles kind pairs t → s ≡ t
settles_same kind pairs true true first second = refl
settles_same kind pairs true false first second = absurd (settles_once kind pairs first second)
settles_same kind pairs false true first second = absurd (settles_once kind pairs second first)
settles_same kind pairs false false first second = refl

-- where none of the first prefixes of a list settles, no shorter list of first pairs settles
none_shorter : (job : Job) (trace : ℕ) (pairs longer : List Pair) (n : ℕ) (truth : Bool)
    → AreFirstPairs job trace pairs → AreFirstPairs job trace longer → length pairs ≤ length longer
    → NoneSettles job longer n → length pairs < n → Settles job.path.kind pairs truth → ⊥
none_shorter job trace pairs longer n truth first second short none within settled =
    none (length pairs) truth within
    (subst (λ (ps : List Pair). Settles job.path.kind ps truth)
    (same_front (pair_at job trace) pairs longer first second short) settled)

-- a trace has one value at most
value_value : (job : Job) (trace : ℕ) (s t : Bool) → HasValue job trace s → HasValue job trace t → s ≡ t
value_value job trace s t a b =
    elim (cases_order (length a.pairs) (length b.pairs)) [
      | inl same ↦
          let front : a.pairs ≡ take (length a.pairs) b.pairs =
          same_front (pair_at job trace) a.pairs b.pairs a.first b.first (omega arith) in
          let all : take (length a.pairs) b.pairs ≡ b.pairs = take_all (length a.pairs) b.pairs (omega arith) in
          let equal : a.pairs ≡ b.pairs = cc in
          settles_same job.path.kind b.pairs s t
          (subst (λ (ps : List Pair). Settles job.path.kind ps s) equal a.settled) b.settled
      | inr apart ↦ elim apart [
        | inl less ↦ absurd (none_shorter job trace a.pairs b.pairs (length b.pairs) s a.first b.first (omega arith) b.shortest less a.settled)
        | inr more ↦ absurd (none_shorter job trace b.pairs a.pairs (length a.pairs) t b.first a.first (omega arith) a.shortest more b.settled)
      ]
    ]

-- a list of first pairs does not reach a state that was not made
not_made : (job : Job) (trace step : ℕ) (fault : TraceFault) (pairs : List Pair)
    → AreFirstPairs job trace pairs → pair_at job trace step ≡ Err fault → step < length pairs → ⊥
not_made job trace step fault pairs first stopped within =
    elim (slice_get_cases pairs step).1 [
      | inl there ↦
          let made : pair_at job trace step ≡ Ok there.0 = first step there.0 there.2 in
          cc
      | inr past ↦ absurd (omega arith)
    ]

-- a trace that has a value does not fault before it is settled, nor is it settled before it faults
value_fault : (job : Job) (trace : ℕ) (s : Bool) (step : ℕ) (fault : TraceFault)
    → HasValue job trace s → HasFault job trace step fault → ⊥
value_fault job trace s step fault a b =
    elim (cases_lt step (length a.pairs)) [
      | inl less ↦ not_made job trace step fault a.pairs a.first b.stopped less
      | inr more ↦
          let before : length b.pairs ≡ step = b.before in
          none_shorter job trace a.pairs b.pairs (step + 1) s a.first b.first (omega arith) b.unsettled (omega arith) a.settled
    ]

-- a trace faults once at most
fault_fault : (job : Job) (trace s t : ℕ) (f g : TraceFault)
    → HasFault job trace s f → HasFault job trace t g → Fault s f ≡ Fault t g
fault_fault job trace s t f g a b =
    let before_a : length a.pairs ≡ s = a.before in
    let before_b : length b.pairs ≡ t = b.before in
    let stopped_a : pair_at job trace s ≡ Err f = a.stopped in
    let stopped_b : pair_at job trace t ≡ Err g = b.stopped in
    elim (cases_order s t) [
      | inl same ↦
          let moved : pair_at job trace t ≡ Err f = subst (λ (k : ℕ). pair_at job trace k ≡ Err f) same stopped_a in
          let equal : f ≡ g = cc in
          cc
      | inr apart ↦ elim apart [
        | inl less ↦ absurd (not_made job trace s f b.pairs b.first stopped_a (omega arith))
        | inr more ↦ absurd (not_made job trace t g a.pairs a.first stopped_b (omega arith))
      ]
    ]

-- a trace has at most one outcome
pub one_outcome_at_most : (job : Job) (trace : ℕ) (a b : Outcome) → IsOutcome job trace a → IsOutcome job trace b → a ≡ b
one_outcome_at_most job trace True True x y = refl
one_outcome_at_most job trace True False x y = absurd (let same : true ≡ false = value_value job trace true false x y in cc)
one_outcome_at_most job trace True (Fault t g) x y = absurd (value_fault job trace true t g x y)
one_outcome_at_most job trace False True x y = absurd (let same : false ≡ true = value_value job trace false true x y in cc)
one_outcome_at_most job trace False False x y = refl
one_outcome_at_most job trace False (Fault t g) x y = absurd (value_fault job trace false t g x y)
one_outcome_at_most job trace (Fault s f) True x y = absurd (value_fault job trace true s f y x)
one_outcome_at_most job trace (Fault s f) False x y = absurd (value_fault job trace false s f y x)
one_outcome_at_most job trace (Fault s f) (Fault t g) x y = fault_fault job trace s t f g x y
