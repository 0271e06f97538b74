-- The modules that take part in an action: at least one, in rising order, and exactly those with a command of it.
use Rattle.std.proofs.Common.{◌≡◌, ℕ, zero, suc, ◌<◌, ◌≤◌, List, [], ◌∷◌, Option, Bool, true, false, All, length, map, get_or, bytes_eq, cond, nat_eq, refl, sym, ap, ◌∙◌, subst, arith, nat_lt}
use Rattle.std.specs.Prelude.{None, Some, ◌==◌, ◌&&◌, ◌||◌, filter, filter_map, position, if◌then◌else◌}
use mathlib.Core.Logic.{inl, inr}
use Rattle.std.specs.List.{list_any, AllPairs, dedup, dedup_from, position_or_len, cons_option}
use Rattle.std.specs.Option.{option_map_or}
use Rattle.std.proofs.lemmas.Bool.{cases_Bool, eqb-true}
use Rattle.std.proofs.lemmas.Bool.Decides.{nat_tests}
use Rattle.std.proofs.lemmas.List.Elements.{All-nil, All-cons, All-head, All-tail, All-weaker}
use Rattle.std.proofs.lemmas.List.Kept.{AllPairs-cons, AllPairs-filter}
use Rattle.std.proofs.lemmas.List.Sums.{position_or_len_is}
use Rattle.chain_model.specs.declared.chain.Act.{Act}
use Rattle.chain_model.specs.Chain.{is_part, TakesExactly, IsAction}
use Rattle.prism_syntax.specs.declared.commands.Command.{Command}
use Rattle.prism_names.specs.First.{Name, is_among, AreDistinct}
use Rattle.typed_trees.proofs.TableLemmas.{same_bytes, own_bytes}
use Rattle.typecheck.specs.Declarations.{first_appearances}
use Rattle.typecheck.specs.Parts.{has_action, taking}
use Rattle.typecheck.proofs.MakingLemmas.{pairs-head, pairs-tail}

module _ (o : ℕ) where
  -- a number among numbers
  abbrev is-here : ℕ → Bool
  is-here n = n == o

  twice : (a b : Bool) → (a || (a || b)) ≡ (a || b)
  twice true b = refl
  twice false b = refl

  -- a number stands among those that are left where it stood before
  any-dedup_from : (k : ℕ) (xs : List ℕ) → list_any is-here (dedup_from nat_eq k xs) ≡ (is-here k || list_any is-here xs)
  any-dedup_from k [] = refl
  any-dedup_from k (x ∷ xs) = elim (cases_Bool (nat_eq x k)) [
    | inl same ↦
        let is : x ≡ k = eqb-true x k same in
        ap (λ b. list_any is-here (cond b (dedup_from nat_eq k xs) (k ∷ dedup_from nat_eq x xs))) same
        ∙ (any-dedup_from k xs ∙ sym (ap (λ z. is-here k || (is-here z || list_any is-here xs)) is ∙ twice (is-here k) (list_any is-here xs)))
    | inr other ↦
        ap (λ b. list_any is-here (cond b (dedup_from nat_eq k xs) (k ∷ dedup_from nat_eq x xs))) other
        ∙ ap (λ b. is-here k || b) (any-dedup_from x xs)
  ]

  any-dedup : (xs : List ℕ) → list_any is-here (dedup nat_eq xs) ≡ list_any is-here xs
  any-dedup [] = refl
  any-dedup (x ∷ xs) = any-dedup_from x xs

  -- of the modules of commands with an action, those that have a command of it
  any-part : (number : ℕ) (acts : List Act) → list_any is-here (map (λ act. act.module) (filter (has_action number) acts)) ≡ list_any (is_part number o) acts
  any-part number [] = refl
  any-part number (act ∷ acts) = elim (cases_Bool (has_action number act)) [
    | inl has ↦
        ap (λ b. list_any is-here (map (λ a. a.module) (cond b (act ∷ filter (has_action number) acts) (filter (has_action number) acts)))) has
        ∙ (ap (λ b. is-here act.module || b) (any-part number acts)
        ∙ sym (ap (λ b. (b && (act.module == o)) || list_any (is_part number o) acts) has))
    | inr lacks ↦
        ap (λ b. list_any is-here (map (λ a. a.module) (cond b (act ∷ filter (has_action number) acts) (filter (has_action number) acts)))) lacks
        ∙ (any-part number acts ∙ sym (ap (λ b. (b && (act.module == o)) || list_any (is_part number o) acts) lacks))
  ]

-- the modules are exactly those that have a command with the action
taking-exact : (acts : List Act) (number : ℕ) → TakesExactly acts number (taking acts number)
taking-exact acts number owner = any-dedup owner (map (λ act. act.module) (filter (has_action number) acts)) ∙ any-part owner number acts

-- numbers that don't fall rise once each stands once
rising_from : (k : ℕ) (xs : List ℕ) → AllPairs (λ a b. a ≤ b) (k ∷ xs) → AllPairs (λ a b. a < b) (dedup_from nat_eq k xs) × All (λ y. k ≤ y) (dedup_from nat_eq k xs)
rising_from k [] pairs =
    (AllPairs-cons (λ a b. a < b) k [] (All-nil (λ y. k < y)) (λ i j d lt within. absurd (omega (arith, within))), All-cons (λ y. k ≤ y) k [] (omega arith) (All-nil (λ y. k ≤ y)))
rising_from k (x ∷ xs) pairs =
    let above : All (λ y. k ≤ y) (x ∷ xs) = pairs-head (λ a b. a ≤ b) k (x ∷ xs) pairs in
    let first : k ≤ x = All-head (λ y. k ≤ y) x xs above in
    let rest : AllPairs (λ a b. a ≤ b) (x ∷ xs) = pairs-tail (λ a b. a ≤ b) k (x ∷ xs) pairs in
    let Good : List ℕ → Type 0 = λ ys. AllPairs (λ a b. a < b) ys × All (λ y. k ≤ y) ys in
    elim (cases_Bool (nat_eq x k)) [
      | inl same ↦
          subst Good (sym (ap (λ b. cond b (dedup_from nat_eq k xs) (k ∷ dedup_from nat_eq x xs)) same))
          (rising_from k xs (AllPairs-cons (λ a b. a ≤ b) k xs (All-tail (λ y. k ≤ y) x xs above) (pairs-tail (λ a b. a ≤ b) x xs rest)))
      | inr other ↦
          let below : k < x = grind (arith, nat_tests, other, first) in
          let more = rising_from x xs rest in
          subst Good (sym (ap (λ b. cond b (dedup_from nat_eq k xs) (k ∷ dedup_from nat_eq x xs)) other)) (
            AllPairs-cons (λ a b. a < b) k (dedup_from nat_eq x xs)
                (All-weaker (λ y. x ≤ y) (λ y. k < y) (λ y le. omega (arith, le, below)) (dedup_from nat_eq x xs) more.1) more.0,
            All-cons (λ y. k ≤ y) k (dedup_from nat_eq x xs) (omega arith)
                (All-weaker (λ y. x ≤ y) (λ y. k ≤ y) (λ y le. omega (arith, le, below)) (dedup_from nat_eq x xs) more.1),
          )
    ]

rising : (xs : List ℕ) → AllPairs (λ a b. a ≤ b) xs → AllPairs (λ a b. a < b) (dedup nat_eq xs)
rising [] pairs = λ i j d lt within. absurd (omega (arith, within))
rising (x ∷ xs) pairs = (rising_from x xs pairs).0

map-Pairs : {X : Type 0} (f : X → ℕ) (xs : List X) → AllPairs (λ a b. f a ≤ f b) xs → AllPairs (λ a b. a ≤ b) (map f xs)
map-Pairs f [] pairs = λ i j d lt within. absurd (omega (arith, within))
map-Pairs f (x ∷ xs) pairs =
    AllPairs-cons (λ a b. a ≤ b) (f x) (map f xs) (later xs (pairs-head (λ a b. f a ≤ f b) x xs pairs)) (map-Pairs f xs (pairs-tail (λ a b. f a ≤ f b) x xs pairs))
  where
    later : (zs : List _) → All (λ z. f x ≤ f z) zs → All (λ n. f x ≤ n) (map f zs)
    later [] all = All-nil (λ n. f x ≤ n)
    later (z ∷ zs) all = All-cons (λ n. f x ≤ n) (f z) (map f zs) (All-head (λ w. f x ≤ f w) z zs all) (later zs (All-tail (λ w. f x ≤ f w) z zs all))

-- where some command has the action, some module takes part
some-dedup_from : (k : ℕ) (xs : List ℕ) → 1 ≤ length (dedup_from nat_eq k xs)
some-dedup_from k [] = omega arith
some-dedup_from k (x ∷ xs) = elim (cases_Bool (nat_eq x k)) [
  | inl same ↦ subst (λ (ys : List ℕ). 1 ≤ length ys) (sym (ap (λ b. cond b (dedup_from nat_eq k xs) (k ∷ dedup_from nat_eq x xs)) same)) (some-dedup_from k xs)
  | inr other ↦ subst (λ (ys : List ℕ). 1 ≤ length ys) (sym (ap (λ b. cond b (dedup_from nat_eq k xs) (k ∷ dedup_from nat_eq x xs)) other)) (more (length (dedup_from nat_eq x xs)))
]
  where
    more : (n : ℕ) → 1 ≤ suc n
    more n = omega arith

taking-some : (acts : List Act) (number : ℕ) → list_any (has_action number) acts ≡ true → 1 ≤ length (taking acts number)
taking-some [] number some = absurd (let never : ⊥ = cc in never)
taking-some (act ∷ acts) number some = elim (cases_Bool (has_action number act)) [
  | inl has ↦
      subst (λ (ys : List Act). 1 ≤ length (dedup nat_eq (map (λ a. a.module) ys))) (sym (ap (λ b. cond b (act ∷ filter (has_action number) acts) (filter (has_action number) acts)) has))
      (some-dedup_from act.module (map (λ a. a.module) (filter (has_action number) acts)))
  | inr lacks ↦
      subst (λ (ys : List Act). 1 ≤ length (dedup nat_eq (map (λ a. a.module) ys))) (sym (ap (λ b. cond b (act ∷ filter (has_action number) acts) (filter (has_action number) acts)) lacks))
      (taking-some acts number (sym (ap (λ b. b || list_any (has_action number) acts) lacks) ∙ some))
]

-- an action that some command has is one of its number
pub action-is : (acts : List Act) (number : ℕ) (name : Name) → list_any (has_action number) acts ≡ true → AllPairs (λ a b. a.module ≤ b.module) acts
    → IsAction acts number (record { name = name; takes = taking acts number })
action-is acts number name some pairs = record {
  some = taking-some acts number some;
  rising = rising (map (λ act. act.module) (filter (has_action number) acts))
      (map-Pairs (λ act. act.module) (filter (has_action number) acts) (AllPairs-filter (λ a b. a.module ≤ b.module) (has_action number) acts pairs));
  exact = taking-exact acts number;
}

-- what appears was not seen
appears-new : (seen names : List Name) → All (λ n. is_among seen n ≡ false) (first_appearances seen names)
appears-new seen [] = All-nil (λ n. is_among seen n ≡ false)
appears-new seen (x ∷ names) = elim (cases_Bool (is_among seen x)) [
  | inl has ↦
      subst (All (λ n. is_among seen n ≡ false)) (sym (ap (λ b. if b then first_appearances seen names else x ∷ first_appearances (x ∷ seen) names) has)) (appears-new seen names)
  | inr lacks ↦
      subst (All (λ n. is_among seen n ≡ false)) (sym (ap (λ b. if b then first_appearances seen names else x ∷ first_appearances (x ∷ seen) names) lacks))
      (All-cons (λ n. is_among seen n ≡ false) x (first_appearances (x ∷ seen) names) lacks
      (All-weaker (λ n. is_among (x ∷ seen) n ≡ false) (λ n. is_among seen n ≡ false) (λ n new. second (bytes_eq x n) (is_among seen n) new) (first_appearances (x ∷ seen) names)
      (appears-new (x ∷ seen) names)))
]
  where
    second : (a b : Bool) → (a || b) ≡ false → b ≡ false
    second true b none = absurd (let never : ⊥ = cc in never)
    second false b none = none

first-of : (a b : Bool) → (a || b) ≡ false → a ≡ false
first-of true b none = absurd (let never : ⊥ = cc in never)
first-of false b none = refl

-- no name appears twice
pub appears-once : (seen names : List Name) → AreDistinct (first_appearances seen names)
appears-once seen [] = λ i j d lt within. absurd (omega (arith, within))
appears-once seen (x ∷ names) = elim (cases_Bool (is_among seen x)) [
  | inl has ↦ subst AreDistinct (sym (ap (λ b. if b then first_appearances seen names else x ∷ first_appearances (x ∷ seen) names) has)) (appears-once seen names)
  | inr lacks ↦
      subst AreDistinct (sym (ap (λ b. if b then first_appearances seen names else x ∷ first_appearances (x ∷ seen) names) lacks))
      (AllPairs-cons (λ a b. a ≡ b → ⊥) x (first_appearances (x ∷ seen) names)
      (All-weaker (λ n. is_among (x ∷ seen) n ≡ false) (λ n. x ≡ n → ⊥) (λ n new same.
      let wrong : true ≡ false = sym (ap (bytes_eq x) (sym same) ∙ own_bytes x) ∙ first-of (bytes_eq x n) (is_among seen n) new in let never : ⊥ = cc in never)
      (first_appearances (x ∷ seen) names) (appears-new (x ∷ seen) names)) (appears-once (x ∷ seen) names))
]

-- there are no more than the names
pub appears-few : (seen names : List Name) → length (first_appearances seen names) ≤ length names
appears-few seen [] = omega arith
appears-few seen (x ∷ names) = elim (cases_Bool (is_among seen x)) [
  | inl has ↦
      subst (λ (ys : List Name). length ys ≤ suc (length names)) (sym (ap (λ b. if b then first_appearances seen names else x ∷ first_appearances (x ∷ seen) names) has))
      (let le : length (first_appearances seen names) ≤ length names = appears-few seen names in omega (arith, le))
  | inr lacks ↦
      subst (λ (ys : List Name). length ys ≤ suc (length names)) (sym (ap (λ b. if b then first_appearances seen names else x ∷ first_appearances (x ∷ seen) names) lacks))
      (let le : length (first_appearances (x ∷ seen) names) ≤ length names = appears-few (x ∷ seen) names in omega (arith, le))
]

pub told-few : {X Y : Type 0} (f : X → Option Y) (xs : List X) → length (filter_map f xs) ≤ length xs
told-few f [] = omega arith
told-few f (x ∷ xs) = more (f x) (told-few f xs)
  where
    more : (o : Option _) → length (filter_map f xs) ≤ length xs → length (cons_option o (filter_map f xs)) ≤ suc (length xs)
    more None le = omega (arith, le)
    more (Some y) le = omega (arith, le)

-- where names are distinct each stands at its own place
pub own-place : (names : List Name) (i : ℕ) (n : Name) → AreDistinct names → i < length names → get_or names i n ≡ n → position (bytes_eq n) names ≡ Some i
own-place names i n distinct lt here =
    let at : position_or_len (bytes_eq n) names ≡ i = position_or_len_is (bytes_eq n) names i n (omega (arith, lt))
    (λ k below. other_bytes n (get_or names k n) (λ same. distinct k i n below lt (sym same ∙ sym here))) (λ _. ap (bytes_eq n) here ∙ own_bytes n) in
    (λ j. cond (nat_lt (at j) (length names)) (Some (at j)) None) ∙ ap (λ b. cond b (Some i) None) (let test : nat_lt i (length names) ≡ true = grind (arith, lt) in test)
  where
    other_bytes : (m k : Name) → (m ≡ k → ⊥) → bytes_eq m k ≡ false
    other_bytes m k ne = elim (cases_Bool (bytes_eq m k)) [ inl same ↦ absurd (ne (same_bytes m k same)) | inr other ↦ other ]

-- a command has an action of this name
abbrev pub has_name : Name → ℕ × Command → Bool
has_name n c = option_map_or (λ m. bytes_eq m n) c.1.action false

-- a name is among the actions where a command has it
pub among-actions : (n : Name) (commands : List (ℕ × Command)) → is_among (filter_map (λ c. c.1.action) commands) n ≡ list_any (has_name n) commands
among-actions n [] = refl
among-actions n (c ∷ commands) = go c.1.action ∙ ap (λ b. has_name n c || b) (among-actions n commands)
  where
    go : (o : Option Name) → is_among (cons_option o (filter_map (λ d. d.1.action) commands)) n ≡ (option_map_or (λ m. bytes_eq m n) o false || is_among (filter_map (λ d. d.1.action) commands) n)
    go None = refl
    go (Some m) = refl

-- a name stands among names at each of its places
pub among-here : (names : List Name) (i : ℕ) (n : Name) → i < length names → get_or names i n ≡ n → is_among names n ≡ true
among-here [] i n lt here = absurd (omega (arith, lt))
among-here (x ∷ names) zero n lt here = ap (λ b. b || is_among names n) (ap (λ z. bytes_eq z n) here ∙ own_bytes n)
among-here (x ∷ names) (suc i) n lt here = either (bytes_eq x n) (is_among names n) (among-here names i n (omega (arith, lt)) here)
  where
    either : (a b : Bool) → b ≡ true → (a || b) ≡ true
    either true b holds = refl
    either false b holds = holds
