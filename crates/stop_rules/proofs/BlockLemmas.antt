-- The code of a block, and what is read from it.
use Rattle.std.proofs.Common.{◌≡◌, ℕ, zero, suc, ◌+◌, ◌-◌, ◌*◌, ◌/◌, ◌%◌, ◌^◌, ◌<◌, ◌≤◌, inl, inr, Bool, true, false, List, [], ◌∷◌, ◌++◌, Option, Some, None, refl, ap, sym, ◌∙◌, subst, arith, rules, length, slice_get, map, take, nat_lt, get_or, if◌then◌else◌}
use Rattle.std.proofs.lemmas.List.{length-map, take_all}
use Rattle.std.proofs.lemmas.Nat.{pow-add}
use Rattle.std.proofs.lemmas.Option.{slice_get-get_or}
use Rattle.std.proofs.Math.Nat.{pow-succ', pow-le-pow_right}
use Rattle.chain_model.specs.declared.outcome.Outcome.{Outcome}
use Rattle.stop_rules.specs.declared.goal.Goal.{Goal}
use Rattle.stop_rules.specs.Decision.{Counts}
use Rattle.stop_rules.specs.Run.{GoesPast, Reaches}
use Rattle.stop_rules.specs.Seen.{is_success, SeenAt, AreSeen}
use Rattle.stop_rules.specs.Codes.{number_of, code_of, given_in, bits_of, truths_in, seen_in, IsCode, StopsAt, IsBlockCode}
use Rattle.stop_rules.proofs.ListLemmas.{Agree, prefix_of_agreed}
use Rattle.stop_rules.proofs.SeenLemmas.{get_some, seen_at_equal, are_seen-append, sees_one_of, seen_flipped, are_seen_flipped}

-- a number of so many bits
number_of-below : (bits : List Bool) → number_of bits < 2 ^ length bits
number_of-below [] = omega arith
number_of-below (true ∷ bits) = rw (pow-succ' 2 (length bits)) (let below = number_of-below bits in omega arith)
number_of-below (false ∷ bits) = rw (pow-succ' 2 (length bits)) (let below = number_of-below bits in omega arith)

-- the bits of an odd number, and of an even one
bits_of-odd : (count n : ℕ) → bits_of (suc count) (1 + 2 * n) ≡ true ∷ bits_of count n
bits_of-odd count n =
    let odd : (1 + 2 * n) % 2 ≡ 1 = omega arith in
    let half : (1 + 2 * n) / 2 ≡ n = omega arith in
    rw (odd, half) refl

bits_of-even : (count n : ℕ) → bits_of (suc count) (2 * n) ≡ false ∷ bits_of count n
bits_of-even count n =
    let even : (2 * n) % 2 ≡ 0 = omega arith in
    let half : (2 * n) / 2 ≡ n = omega arith in
    rw (even, half) refl

-- the lowest bits of a number that begins with these bits
bits_of-number : (bits : List Bool) (high : ℕ) → bits_of (length bits) (number_of bits + 2 ^ length bits * high) ≡ bits
bits_of-number [] high = refl
bits_of-number (true ∷ bits) high =
    let whole : 1 + 2 * number_of bits + 2 ^ suc (length bits) * high ≡ 1 + 2 * (number_of bits + 2 ^ length bits * high) = rw (pow-succ' 2 (length bits)) (omega arith) in
    rw whole (bits_of-odd (length bits) (number_of bits + 2 ^ length bits * high) ∙ ap (λ v. true ∷ v) (bits_of-number bits high))
bits_of-number (false ∷ bits) high =
    let whole : 2 * number_of bits + 2 ^ suc (length bits) * high ≡ 2 * (number_of bits + 2 ^ length bits * high) = rw (pow-succ' 2 (length bits)) (omega arith) in
    rw whole (bits_of-even (length bits) (number_of bits + 2 ^ length bits * high) ∙ ap (λ v. false ∷ v) (bits_of-number bits high))

-- what stands above the bits of a code
code_of-split : (bits : List Bool) → length bits ≤ 32 → code_of bits ≡ number_of bits + 2 ^ length bits * (2 ^ (32 - length bits) * (2 ^ 31 + length bits))
code_of-split bits few =
    let l = length bits in
    let k = 32 - length bits in
    let sum : l + k ≡ 32 = omega arith in
    let power : 2 ^ l * 2 ^ k ≡ 2 ^ 32 = sym (pow-add 2 l k) ∙ ap (λ (v : ℕ). 2 ^ v) sum in
    let regroup : 2 ^ l * (2 ^ k * (2 ^ 31 + l)) ≡ (2 ^ l * 2 ^ k) * (2 ^ 31 + l) = omega arith in
    let high : 2 ^ l * (2 ^ k * (2 ^ 31 + l)) ≡ 2 ^ 32 * (2 ^ 31 + l) = regroup ∙ ap (λ (v : ℕ). v * (2 ^ 31 + l)) power in
    rw high (omega arith)

-- the bits of a code
pub bits_of-code : (bits : List Bool) → length bits ≤ 32 → bits_of (length bits) (code_of bits) ≡ bits
bits_of-code bits few = rw (code_of-split bits few) (bits_of-number bits (2 ^ (32 - length bits) * (2 ^ 31 + length bits)))

-- the number of a block's bits is below 2^32
number_of-narrow : (bits : List Bool) → length bits ≤ 32 → number_of bits < 2 ^ 32
number_of-narrow bits few =
    let below = number_of-below bits in
    let power : 2 ^ length bits ≤ 2 ^ 32 = pow-le-pow_right {n = 2} (omega arith) few in
    omega arith

-- numbers of which so many are given
given_of : (l n : ℕ) → l ≤ 32 → n < 2 ^ 32 → ((2 ^ 63 + (2 ^ 32 * l + n)) / 2 ^ 32) % 64 ≡ l
given_of l n few narrow =
    let high : (2 ^ 63 + (2 ^ 32 * l + n)) / 2 ^ 32 ≡ 2 ^ 31 + l = omega arith in
    rw high (omega arith)

-- how many traces a code tells of
pub given_in-code : (bits : List Bool) → length bits ≤ 32 → given_in (code_of bits) ≡ length bits
given_in-code bits few = given_of (length bits) (number_of bits) few (number_of-narrow bits few)

-- a code fits 64 bits
pub code_of-narrow : (bits : List Bool) → length bits ≤ 32 → code_of bits < 2 ^ 64
code_of-narrow bits few = let narrow = number_of-narrow bits few in omega arith

-- the code of a block is a code
pub is_code : (bits : List Bool) (count : ℕ) → 1 ≤ count → count ≤ 32 → length bits ≤ count → IsCode (code_of bits) count
is_code bits count some few within = record {
  some = some;
  few = few;
  marked = omega arith;
  given = let given = given_in-code bits (omega arith) in omega arith;
}

-- a block has no more truth values than traces
pub stops_within : (outcome_at : ℕ → Outcome → Type 0) (first count given : ℕ) → StopsAt outcome_at first count given → given ≤ count
stops_within outcome_at first count given stops = elim stops [ inl h ↦ omega (arith, h) | inr h ↦ let below = h.0 in omega arith ]

-- the truth values of a code
truths_in-code : (flip : Bool) (bits : List Bool) → length bits ≤ 32 → truths_in flip (code_of bits) ≡ map (is_success flip) bits
truths_in-code flip bits few = rw (given_in-code bits few, bits_of-code bits few) refl

-- what comes after the truth values of a block is seen
rest_seen : (outcome_at : ℕ → Outcome → Type 0) (flip : Bool) (first count given : ℕ) → StopsAt outcome_at first count given
    → AreSeen outcome_at flip (first + given) (if nat_lt given count then None ∷ [] else [])
rest_seen outcome_at flip first count given stops =
    elim stops [
      | inl h ↦ let test : nat_lt given count ≡ false = search (rules, h) in rw test (λ k one e. absurd cc)
      | inr h ↦ let test : nat_lt given count ≡ true = search (rules, h.0) in rw test (fault_seen outcome_at flip first given h.1)
    ]
  where
    fault_seen : (outcome_at : ℕ → Outcome → Type 0) (flip : Bool) (first given : ℕ) → SeenAt outcome_at false (first + given) None → AreSeen outcome_at flip (first + given) (None ∷ [])
    fault_seen outcome_at flip first given fault zero one e =
        let is : None ≡ one = cc in
        subst (λ (v : Option Bool). SeenAt outcome_at flip (first + given + 0) v) is (seen_at_equal outcome_at flip (first + given) (first + given + 0) None (omega arith) (seen_flipped outcome_at flip (first + given) None fault))
    fault_seen outcome_at flip first given fault (suc k) one e = absurd cc

-- what is read from the code of a block is seen of its traces
pub block_seen : (outcome_at : ℕ → Outcome → Type 0) (flip : Bool) (first count code : ℕ) → count ≤ 32 → IsBlockCode outcome_at first count code → AreSeen outcome_at flip first (seen_in flip code count)
block_seen outcome_at flip first count code few block =
    let within = stops_within outcome_at first count (length block.truths) block.stops in
    let short : length block.truths ≤ 32 = omega arith in
    let front = map (λ t. Some t) (map (is_success flip) block.truths) in
    let long : length front ≡ length block.truths = length-map (map (is_success flip) block.truths) (λ t. Some t) ∙ length-map block.truths (is_success flip) in
    let rest = rest_seen outcome_at flip first count (length block.truths) block.stops in
    let all : AreSeen outcome_at flip first (front ++ (if nat_lt (length block.truths) count then None ∷ [] else [])) =
    are_seen-append outcome_at flip first front _ (are_seen_flipped outcome_at flip first block.truths block.seen) (rw long rest) in
    rw (block.is, truths_in-code flip block.truths short, given_in-code block.truths short) all

-- the code of a block is a code
pub block_is_code : (outcome_at : ℕ → Outcome → Type 0) (first count code : ℕ) → 1 ≤ count → count ≤ 32 → IsBlockCode outcome_at first count code → IsCode code count
block_is_code outcome_at first count code some few block = rw block.is (is_code block.truths count some few (stops_within outcome_at first count (length block.truths) block.stops))

-- of two lists of a block's truth values none is shorter
none_shorter : (outcome_at : ℕ → Outcome → Type 0) (first count a b : ℕ) → ((trace : ℕ) (a b : Outcome) → outcome_at trace a → outcome_at trace b → a ≡ b)
    → (p : IsBlockCode outcome_at first count a) → (q : IsBlockCode outcome_at first count b) → length p.truths < length q.truths → ⊥
none_shorter outcome_at first count a b one p q h =
    let within = stops_within outcome_at first count (length q.truths) q.stops in
    elim p.stops [
      | inl e ↦ absurd (omega (arith, e))
      | inr fault ↦
          let n = length p.truths in
          let is : slice_get q.truths n ≡ Some (get_or q.truths n true) = slice_get-get_or q.truths n true h in
          let both : None ≡ Some (get_or q.truths n true) =
          sees_one_of outcome_at false first one n None (Some (get_or q.truths n true)) fault.1 (q.seen n (Some (get_or q.truths n true)) (get_some q.truths n (get_or q.truths n true) is)) in
          absurd cc
    ]

-- a block has at most one code
pub code_once : (outcome_at : ℕ → Outcome → Type 0) (first count a b : ℕ) → ((trace : ℕ) (a b : Outcome) → outcome_at trace a → outcome_at trace b → a ≡ b)
    → IsBlockCode outcome_at first count a → IsBlockCode outcome_at first count b → a ≡ b
code_once outcome_at first count a b one p q =
    let not_shorter = none_shorter outcome_at first count a b one p q in
    let not_longer = none_shorter outcome_at first count b a one q p in
    let long : length p.truths ≤ length q.truths = omega (arith, not_shorter, not_longer) in
    let short : length q.truths ≤ length p.truths = omega (arith, not_shorter, not_longer) in
    let agree : Agree p.truths q.truths = record {
      at = λ k x y e f.
          let same : Some x ≡ Some y = sees_one_of outcome_at false first one k (Some x) (Some y) (p.seen k (Some x) (get_some p.truths k x e)) (q.seen k (Some y) (get_some q.truths k y f)) in cc;
    } in
    let front : take (length p.truths) q.truths ≡ p.truths = prefix_of_agreed p.truths q.truths long agree in
    let same : p.truths ≡ q.truths = sym front ∙ take_all (length p.truths) q.truths short in
    p.is ∙ (ap code_of same ∙ sym q.is)

-- a run that goes past the truth values of a block reaches the counts after them
pub block_reached : (outcome_at : ℕ → Outcome → Type 0) (goal : Goal) (d f count code : ℕ) (after : Counts) → count ≤ 32 → IsBlockCode outcome_at (d + f) count code
    → GoesPast goal (record { d = d; f = f }) (truths_in goal.flip code) after → Reaches outcome_at goal d f after
block_reached outcome_at goal d f count code after few block past =
    let within = stops_within outcome_at (d + f) count (length block.truths) block.stops in
    let short : length block.truths ≤ 32 = omega arith in
    record {
      truths = truths_in goal.flip code;
      seen = rw (block.is, truths_in-code goal.flip block.truths short) (are_seen_flipped outcome_at goal.flip (d + f) block.truths block.seen);
      past = past;
    }
