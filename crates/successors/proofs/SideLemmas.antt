-- What right sides assign is what the chain's assignments do.
use Rattle.std.proofs.Common.{◌≡◌, ℕ, ◌+◌, ◌<◌, List, [], ◌∷◌, ◌++◌, length, get_or, take, Bool, true, ◌&&◌, refl, sym, ap, ◌∙◌, subst, Result, Ok, Err}
use Rattle.std.specs.Prelude.{ℤ, not, int_le, slice_get}
use Rattle.std.proofs.lemmas.List.{take_more}
use Rattle.chain_model.specs.declared.outcome.TraceFault.{TraceFault}
use Rattle.chain_model.specs.declared.outcome.TraceFault.TheVariants.{Range}
use Rattle.chain_model.specs.declared.expressions.Typed.{Typed}
use Rattle.chain_model.specs.declared.chain.Chain.{Chain}
use Rattle.chain_model.specs.declared.chain.Var.{Var}
use Rattle.chain_model.specs.Results.{◌>>=◌, ◌>>◌, refuse_if, each}
use Rattle.chain_model.specs.Values.{Valued}
use Rattle.chain_model.specs.Choices.{value_in, no_labels}
use Rattle.chain_model.specs.Step.{stored, is_within, assignment_of}
use Rattle.guard_code.specs.declared.nodes.Node.{Node}
use Rattle.guard_code.specs.Wholes.{stored_of}
use Rattle.guard_code.specs.Means.{Means}
use Rattle.successors.specs.declared.sides.Side.{Side}
use Rattle.successors.specs.declared.sides.Side.TheVariants as s
use Rattle.successors.specs.Sides.{assigned_by, IsConstant, IsSide, AreSides}

-- a number as the value of a variable, and where it passes a test
abbrev made : ℕ → ℤ → Result (ℕ × ℤ) TraceFault
made variable n = Ok (variable, n)

abbrev tested : ℕ → (ℤ → Bool) → ℤ → Result (ℕ × ℤ) TraceFault
tested variable within n = refuse_if (not (within n)) (Range variable) >> made variable n

-- a value's test, in one or in two parts
by_stored : (value : Valued) (variable : ℕ) (within first : ℤ → Bool) → ((n : ℤ) → first n ≡ within n)
    → (value >>= λ a. tested variable within (stored a)) ≡ (stored_of value >>= tested variable first)
by_stored (Err fault) variable within first same = refl
by_stored (Ok a) variable within first same =
    ap (λ (b : Bool). refuse_if (not b) (Range variable) >> made variable (stored a)) (sym (same (stored a)))

-- the node of a right side with its variable's range assigns what the assignment does
pub ranged : (chain : Chain) (set : ℕ × Typed) (node : Node) (lo hi : ℤ) → Means node set.1
    → ((n : ℤ) → (int_le lo n && int_le n hi) ≡ is_within (slice_get chain.vars set.0) n) → IsSide chain set (s.Ranged set.0 lo hi node)
unfolding assignment_of
ranged chain set node lo hi means range = record {
  same = λ state small.
      by_stored (value_in state set.1) set.0 (is_within (slice_get chain.vars set.0)) (λ n. int_le lo n && int_le n hi) range
      ∙ ap (λ (v : Valued). stored_of v >>= tested set.0 (λ n. int_le lo n && int_le n hi)) (sym (means.same no_labels state small));
}

pub ranged_is : (chain : Chain) (set : ℕ × Typed) (node : Node) (vars : List Var) (range : ℤ × ℤ) (side : Side) → Means node set.1 → vars ≡ chain.vars
    → ((n : ℤ) → (int_le range.0 n && int_le n range.1) ≡ is_within (slice_get vars set.0) n) → side ≡ s.Ranged set.0 range.0 range.1 node → IsSide chain set side
ranged_is chain set node vars range side means is within made =
    subst (IsSide chain set) (sym made)
    (ranged chain set node range.0 range.1 means (λ n. within n ∙ ap (λ (vs : List Var). is_within (slice_get vs set.0) n) is))

-- a constant within the range assigns what the assignment does
pub constant_is : (chain : Chain) (set : ℕ × Typed) (node : Node) (vars : List Var) (range : ℤ × ℤ) (variable : ℕ) (n : ℤ) (side : Side) → Means node set.1 → vars ≡ chain.vars
    → ((n : ℤ) → (int_le range.0 n && int_le n range.1) ≡ is_within (slice_get vars set.0) n)
    → variable ≡ set.0 → IsConstant node n → (int_le range.0 n && int_le n range.1) ≡ true → side ≡ s.Constant variable n → IsSide chain set side
constant_is chain set node vars range variable n side means is within same constant inside made_so = record {
  same = λ state small.
      (ranged chain set node range.0 range.1 means (λ m. within m ∙ ap (λ (vs : List Var). is_within (slice_get vs set.0) m) is)).same state small
      ∙ ap (λ (r : Result ℤ TraceFault). r >>= tested set.0 (λ m. int_le range.0 m && int_le m range.1)) (constant.same state)
      ∙ ap (λ (b : Bool). refuse_if (not b) (Range set.0) >> made set.0 n) inside
      ∙ ap (λ v. made v n) (sym same)
      ∙ ap (assigned_by state) (sym made_so);
}

-- what comes of one item more
between : {B : Type 0} (one : Result B TraceFault) (rest : Result (List B) TraceFault) (last : Result B TraceFault)
    → (one >>= λ y. (rest >>= λ ys. last >>= λ z. Ok (ys ++ (z ∷ []))) >>= λ ys. Ok (y ∷ ys))
    ≡ ((one >>= λ y. rest >>= λ ys. Ok (y ∷ ys)) >>= λ ys. last >>= λ z. Ok (ys ++ (z ∷ [])))
between (Err fault) rest last = refl
between (Ok y) (Err fault) last = refl
between (Ok y) (Ok ys) (Err fault) = refl
between (Ok y) (Ok ys) (Ok z) = refl

only : {B : Type 0} (r : Result B TraceFault) → (r >>= λ y. Ok (y ∷ [])) ≡ (r >>= λ y. Ok ([] ++ (y ∷ [])))
only (Ok y) = refl
only (Err fault) = refl

pub each_push : {A B : Type 0} (f : A → Result B TraceFault) (xs : List A) (x : A)
    → each f (xs ++ (x ∷ [])) ≡ (each f xs >>= λ ys. f x >>= λ y. Ok (ys ++ (y ∷ [])))
each_push f [] x = only (f x)
each_push f (first ∷ xs) x =
    ap (λ rest. f first >>= λ y. rest >>= λ ys. Ok (y ∷ ys)) (each_push f xs x) ∙ between (f first) (each f xs) (f x)

-- one side more
pub sides_more : (chain : Chain) (sets : List (ℕ × Typed)) (i : ℕ) (set : ℕ × Typed) (sides new : List Side) (side : Side) → i < length sets → set ≡ get_or sets i set
    → AreSides chain (take i sets) sides → IsSide chain set side → new ≡ sides ++ (side ∷ []) → AreSides chain (take (i + 1) sets) new
sides_more chain sets i set sides new side lt is so one more = record {
  same = λ state small.
      ap (each (assignment_of chain state)) (take_more sets i set lt ∙ ap (λ (s : ℕ × Typed). take i sets ++ (s ∷ [])) (sym is))
      ∙ each_push (assignment_of chain state) (take i sets) set
      ∙ (λ j. so.same state small j >>= λ ys. one.same state small j >>= λ y. Ok (ys ++ (y ∷ [])))
      ∙ sym (each_push (assigned_by state) sides side)
      ∙ ap (each (assigned_by state)) (sym more);
}
