-- What is seen of traces, one after the other.
use Rattle.std.proofs.Common.{◌≡◌, ℕ, zero, suc, ◌+◌, ◌⊎◌, inl, inr, Bool, false, List, [], ◌∷◌, ◌++◌, Option, Some, refl, ap, sym, ◌∙◌, subst, arith, length, slice_get, map, option_map}
use Rattle.chain_model.specs.declared.outcome.Outcome.{Outcome}
use Rattle.chain_model.specs.declared.outcome.Outcome.TheVariants.{True, False, Fault}
use Rattle.stop_rules.specs.Seen.{is_success, seen_of, SeenAt, AreSeen}
use Rattle.stop_rules.proofs.EndLemmas.{SeesOne}

-- an element of two lists is one of the first, or so much later one of the second
pub get_split : {X : Type 0} (xs ys : List X) (k : ℕ) (x : X) → slice_get (xs ++ ys) k ≡ Some x → (slice_get xs k ≡ Some x) ⊎ ((j : ℕ) × (k ≡ length xs + j) × (slice_get ys j ≡ Some x))
get_split [] ys k x e = inr (k, omega arith, e)
get_split (z ∷ xs) ys zero x e = inl e
get_split (z ∷ xs) ys (suc k) x e =
    elim (get_split xs ys k x e) [ inl h ↦ inl h | inr h ↦ inr (h.0, let is = h.1 in omega arith, h.2) ]

-- an element of a mapped list comes from one of the list
pub get_unmapped : {X Y : Type 0} (f : X → Y) (xs : List X) (k : ℕ) (y : Y) → slice_get (map f xs) k ≡ Some y → (x : X) × (slice_get xs k ≡ Some x) × (f x ≡ y)
get_unmapped f [] k y e = absurd cc
get_unmapped f (x ∷ xs) zero y e = (x, refl, cc)
get_unmapped f (x ∷ xs) (suc k) y e = get_unmapped f xs k y e

-- an element, wrapped
pub get_some : (truths : List Bool) (k : ℕ) (truth : Bool) → slice_get truths k ≡ Some truth → slice_get (map (λ t. Some t) truths) k ≡ Some (Some truth)
get_some [] k truth e = absurd cc
get_some (t ∷ truths) zero truth e = let same : t ≡ truth = cc in ap (λ v. Some (Some v)) same
get_some (t ∷ truths) (suc k) truth e = get_some truths k truth e

-- a trace known by an equal number
pub seen_at_equal : (outcome_at : ℕ → Outcome → Type 0) (flip : Bool) (m n : ℕ) (one : Option Bool) → m ≡ n → SeenAt outcome_at flip m one → SeenAt outcome_at flip n one
seen_at_equal outcome_at flip m n one e seen = subst (λ (v : ℕ). SeenAt outcome_at flip v one) e seen

-- traces that are seen one after the other
pub are_seen-append : (outcome_at : ℕ → Outcome → Type 0) (flip : Bool) (first : ℕ) (xs ys : List (Option Bool)) → AreSeen outcome_at flip first xs → AreSeen outcome_at flip (first + length xs) ys
    → AreSeen outcome_at flip first (xs ++ ys)
are_seen-append outcome_at flip first xs ys p q k one e =
    elim (get_split xs ys k one e) [
      | inl h ↦ p k one h
      | inr h ↦ let is = h.1 in seen_at_equal outcome_at flip (first + length xs + h.0) (first + k) one (omega arith) (q h.0 one h.2)
    ]

-- at most one thing is seen of a trace that has one outcome
pub sees_one_of : (outcome_at : ℕ → Outcome → Type 0) (flip : Bool) (first : ℕ) → ((trace : ℕ) (a b : Outcome) → outcome_at trace a → outcome_at trace b → a ≡ b)
    → SeesOne (λ k one. SeenAt outcome_at flip (first + k) one)
sees_one_of outcome_at flip first one k a b p q = sym p.2 ∙ (ap (seen_of flip) (one (first + k) p.0 q.0 p.1 q.1) ∙ q.2)

-- a flip changes a raw truth value, and no fault
seen_of-flip : (flip : Bool) (outcome : Outcome) → seen_of flip outcome ≡ option_map (is_success flip) (seen_of false outcome)
seen_of-flip flip True = refl
seen_of-flip flip False = refl
seen_of-flip flip (Fault step fault) = refl

-- what a goal sees of a trace of which this raw truth value, or a fault, is seen
pub seen_flipped : (outcome_at : ℕ → Outcome → Type 0) (flip : Bool) (trace : ℕ) (raw : Option Bool) → SeenAt outcome_at false trace raw → SeenAt outcome_at flip trace (option_map (is_success flip) raw)
seen_flipped outcome_at flip trace raw seen = (seen.0, seen.1, seen_of-flip flip seen.0 ∙ ap (option_map (is_success flip)) seen.2)

-- what a goal sees of traces of these raw truth values
pub are_seen_flipped : (outcome_at : ℕ → Outcome → Type 0) (flip : Bool) (first : ℕ) (truths : List Bool) → AreSeen outcome_at false first (map (λ t. Some t) truths)
    → AreSeen outcome_at flip first (map (λ t. Some t) (map (is_success flip) truths))
are_seen_flipped outcome_at flip first truths seen k one e =
    let some = get_unmapped (λ t. Some t) (map (is_success flip) truths) k one e in
    let raw = get_unmapped (is_success flip) truths k some.0 some.1 in
    let mapped : slice_get (map (λ t. Some t) truths) k ≡ Some (Some raw.0) = get_some truths k raw.0 raw.1 in
    let is : Some (is_success flip raw.0) ≡ one = ap (λ v. Some v) raw.2 ∙ some.2 in
    subst (λ (v : Option Bool). SeenAt outcome_at flip (first + k) v) is (seen_flipped outcome_at flip (first + k) (Some raw.0) (seen k (Some raw.0) mapped))
