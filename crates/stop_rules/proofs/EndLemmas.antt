-- A run has one end.
use Rattle.std.proofs.Common.{◌≡◌, ◌↔◌, ℕ, suc, ◌<◌, ◌≤◌, Bool, true, List, Option, Some, None, ap, sym, ◌∙◌, subst, arith, length, slice_get, take, map, option_map, get_or}
use Rattle.std.proofs.lemmas.List.{take_all, length-map}
use Rattle.std.proofs.lemmas.Option.{slice_get-get_or, slice_get_within, slice_get-map}
use Rattle.stop_rules.specs.declared.end.End.{End}
use Rattle.stop_rules.specs.declared.goal.Goal.{Goal}
use Rattle.stop_rules.specs.Decision.{Counts, counted, counts_after, cause_at, end_at, end_with}
use Rattle.stop_rules.specs.Run.{GoesOn, EndsOn, EndsAmong, GoesPast}
use Rattle.stop_rules.proofs.ListLemmas.{Agree, prefix_of_agreed, take_one_more}
use Rattle.stop_rules.proofs.RunLemmas.{counts_after-push}

-- at most one thing is seen of each trace
abbrev pub SeesOne : (ℕ → Option Bool → Type 0) → Type 0
SeesOne seen_at = (k : ℕ) (a b : Option Bool) → seen_at k a → seen_at k b → a ≡ b

-- lists of what is seen agree
befores_agree : (seen_at : ℕ → Option Bool → Type 0) (a b : List Bool) → SeesOne seen_at → ((k : ℕ) (x : Bool) → slice_get a k ≡ Some x → seen_at k (Some x))
    → ((k : ℕ) (x : Bool) → slice_get b k ≡ Some x → seen_at k (Some x)) → Agree a b
befores_agree seen_at a b one p q = record { at = λ k x y e f. let same : Some x ≡ Some y = one k (Some x) (Some y) (p k x e) (q k y f) in cc }

-- a run that goes on after a trace does not end with it
no_end : (goal : Goal) (counts : Counts) (truth : Bool) (end : End) → cause_at goal (counted truth counts) ≡ None → end_with goal counts (Some truth) ≡ Some end → ⊥
no_end goal counts truth end none ends = let e : end_with goal counts (Some truth) ≡ None = ap (option_map (end_at (counted truth counts))) none in cc

-- a run that goes on after these traces does not end with one of them
not_within : (goal : Goal) (counts : Counts) (truths : List Bool) (n : ℕ) (truth : Bool) (end : End) → GoesOn goal counts truths → n < length truths → slice_get truths n ≡ Some truth
    → end_with goal (counts_after counts (take n truths)) (Some truth) ≡ Some end → ⊥
not_within goal counts truths n truth end goes_on within is ends =
    let longer : counts_after counts (take (suc n) truths) ≡ counted truth (counts_after counts (take n truths)) =
    ap (counts_after counts) (take_one_more n truths truth is) ∙ counts_after-push counts (take n truths) truth in
    let none : cause_at goal (counted truth (counts_after counts (take n truths))) ≡ None = ap (cause_at goal) (sym longer) ∙ goes_on (suc n) (omega arith) (omega arith) in
    no_end goal (counts_after counts (take n truths)) truth end none ends

-- of two ends of a run none comes before the other
no_earlier : (seen_at : ℕ → Option Bool → Type 0) (goal : Goal) (counts : Counts) (a b : End) → SeesOne seen_at → (p : EndsOn seen_at goal counts a) → (q : EndsOn seen_at goal counts b)
    → length p.before < length q.before → ⊥
no_earlier seen_at goal counts a b one p q h =
    let n = length p.before in
    let truth = get_or q.before n true in
    let is : slice_get q.before n ≡ Some truth = slice_get-get_or q.before n true h in
    let front : take n q.before ≡ p.before = prefix_of_agreed p.before q.before (omega arith) (befores_agree seen_at p.before q.before one p.seen q.seen) in
    let last : p.last ≡ Some truth = one n p.last (Some truth) p.last_seen (q.seen n truth is) in
    let ends : end_with goal (counts_after counts (take n q.before)) (Some truth) ≡ Some a = rw front (rw last at p.ends) in
    not_within goal counts q.before n truth a q.goes_on h is ends

-- a run has at most one end
pub ends_once : (seen_at : ℕ → Option Bool → Type 0) (goal : Goal) (counts : Counts) (a b : End) → SeesOne seen_at → EndsOn seen_at goal counts a → EndsOn seen_at goal counts b → a ≡ b
ends_once seen_at goal counts a b one p q =
    let not_before = no_earlier seen_at goal counts a b one p q in
    let not_after = no_earlier seen_at goal counts b a one q p in
    let long : length p.before ≤ length q.before = omega (arith, not_before, not_after) in
    let short : length q.before ≤ length p.before = omega (arith, not_before, not_after) in
    let front = prefix_of_agreed p.before q.before long (befores_agree seen_at p.before q.before one p.seen q.seen) in
    let same : q.before ≡ p.before = sym (take_all (length p.before) q.before short) ∙ front in
    let last : q.last ≡ p.last = one (length p.before) q.last p.last (rw (ap length same) at q.last_seen) p.last_seen in
    let ends : end_with goal (counts_after counts p.before) p.last ≡ Some b = rw (same, last) at q.ends in
    let both : Some a ≡ Some b = sym p.ends ∙ ends in cc

-- at most one thing is seen in a list
pub sees_one_in : (seen : List (Option Bool)) → SeesOne (λ k one. slice_get seen k ≡ Some one)
sees_one_in seen k a b p q = cc

-- an end among these traces is the one end among them
pub is_the_end : (goal : Goal) (counts : Counts) (seen : List (Option Bool)) (found : End) → EndsAmong goal counts seen found → (end : End) → (Some found ≡ Some end) ↔ EndsAmong goal counts seen end
is_the_end goal counts seen found p end = (
  (λ same. let e : found ≡ end = cc in subst (EndsAmong goal counts seen) e p),
  (λ q. ap (λ v. Some v) (ends_once _ goal counts found end (sees_one_in seen) p q)),
)

-- where one of some traces ends a run, the run does not go on after all of them
no_end_among : (goal : Goal) (counts : Counts) (truths : List Bool) (end : End) → GoesOn goal counts truths → EndsAmong goal counts (map (λ t. Some t) truths) end → ⊥
no_end_among goal counts truths end goes_on q =
    let n = length q.before in
    let within : n < length truths = omega (arith, slice_get_within (map (λ t. Some t) truths) n q.last q.last_seen, length-map truths (λ t. Some t)) in
    let truth = get_or truths n true in
    let is : slice_get truths n ≡ Some truth = slice_get-get_or truths n true within in
    let mapped : slice_get (map (λ t. Some t) truths) n ≡ Some (Some truth) = slice_get-map (λ t. Some t) truths n ∙ ap (option_map (λ t. Some t)) is in
    let last : q.last ≡ Some truth = let both : Some q.last ≡ Some (Some truth) = sym q.last_seen ∙ mapped in cc in
    let front : take n truths ≡ q.before = prefix_of_agreed q.before truths (omega arith) (record {
      at = λ k x y e f.
          let here : Some (Some x) ≡ Some (Some y) = sym (q.seen k x e) ∙ (slice_get-map (λ t. Some t) truths k ∙ ap (option_map (λ t. Some t)) f) in cc;
    }) in
    let ends : end_with goal (counts_after counts (take n truths)) (Some truth) ≡ Some end = rw front (rw last at q.ends) in
    not_within goal counts truths n truth end goes_on within is ends

-- a run that goes past these traces has no end among them
pub has_no_end : (goal : Goal) (counts after : Counts) (truths : List Bool) → GoesPast goal counts truths after → (end : End) → (None ≡ Some end) ↔ EndsAmong goal counts (map (λ t. Some t) truths) end
has_no_end goal counts after truths past end = (
  (λ same. cc),
  (λ q. absurd (no_end_among goal counts truths end past.goes_on q)),
)
