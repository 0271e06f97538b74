-- Assignments made one after another in a copy.
use Rattle.std.proofs.Common.{◌≡◌, ℕ, ◌+◌, ◌<◌, ◌≤◌, List, [], ◌∷◌, ◌++◌, length, get_or, drop, refl, sym, ap, ◌∙◌, Result, Ok, Err}
use Rattle.std.specs.Prelude.{ℤ, slice_set}
use Rattle.std.proofs.lemmas.List.{at_drop_more, drop_all}
use Rattle.chain_model.specs.declared.outcome.TraceFault.{TraceFault}
use Rattle.chain_model.specs.declared.expressions.Typed.{Typed}
use Rattle.chain_model.specs.declared.chain.Chain.{Chain}
use Rattle.chain_model.specs.Results.{◌>>=◌, each}
use Rattle.chain_model.specs.States.{State}
use Rattle.chain_model.specs.Step.{assignment_of, after_assignments, sets_of, all_sets}
use Rattle.trace_meaning.specs.Assigning.{assigned_to}

-- what the first assignment and the others give together
first_of_all : (copy : State) (r : Result (ℕ × ℤ) TraceFault) (e : Result (List (ℕ × ℤ)) TraceFault)
    → ((r >>= λ one. e >>= λ others. Ok (one ∷ others)) >>= λ assigned. Ok (after_assignments copy assigned))
    ≡ (r >>= λ one. e >>= λ assigned. Ok (after_assignments (slice_set copy one.0 one.1) assigned))
first_of_all copy (Err fault) e = refl
first_of_all copy (Ok one) (Err fault) = refl
first_of_all copy (Ok one) (Ok others) = refl

-- the first assignment is made, and the others go on from there
assigned-cons : (chain : Chain) (state copy : State) (set : ℕ × Typed) (sets : List (ℕ × Typed))
    → assigned_to chain state copy (set ∷ sets)
    ≡ (assignment_of chain state set >>= λ one. assigned_to chain state (slice_set copy one.0 one.1) sets)
assigned-cons chain state copy set sets = first_of_all copy (assignment_of chain state set) (each (assignment_of chain state) sets)

-- one assignment further
pub assigned_at : (chain : Chain) (state copy : State) (sets : List (ℕ × Typed)) (i : ℕ) (set : ℕ × Typed) (made : Result (ℕ × ℤ) TraceFault)
    → i < length sets → set ≡ get_or sets i set → assignment_of chain state set ≡ made
    → assigned_to chain state copy (drop i sets) ≡ (made >>= λ one. assigned_to chain state (slice_set copy one.0 one.1) (drop (i + 1) sets))
assigned_at chain state copy sets i set made lt is so =
    at_drop_more (assigned_to chain state copy) sets i set lt
    ∙ ap (λ (s : ℕ × Typed). assigned_to chain state copy (s ∷ drop (i + 1) sets)) (sym is)
    ∙ assigned-cons chain state copy set (drop (i + 1) sets)
    ∙ ap (λ (r : Result (ℕ × ℤ) TraceFault). r >>= λ one. assigned_to chain state (slice_set copy one.0 one.1) (drop (i + 1) sets)) so

-- results in a row may be put together in either order
pub bind_assoc : {A B C : Type 0} (r : Result A TraceFault) (f : A → Result B TraceFault) (g : B → Result C TraceFault)
    → (r >>= λ x. f x >>= g) ≡ ((r >>= f) >>= g)
bind_assoc (Ok x) f g = refl
bind_assoc (Err fault) f g = refl

-- what comes of a value is the same, where it is for each value
pub bind_same : {A B : Type 0} (r : Result A TraceFault) (f g : A → Result B TraceFault) → ((x : A) → f x ≡ g x) → (r >>= f) ≡ (r >>= g)
bind_same (Ok x) f g same = same x
bind_same (Err fault) f g same = refl

-- some assignments, and then others
pub assigned-append : (chain : Chain) (state copy : State) (sets more : List (ℕ × Typed))
    → assigned_to chain state copy (sets ++ more) ≡ (assigned_to chain state copy sets >>= λ next. assigned_to chain state next more)
assigned-append chain state copy [] more = refl
assigned-append chain state copy (set ∷ sets) more =
    assigned-cons chain state copy set (sets ++ more)
    ∙ bind_same (assignment_of chain state set) (λ one. assigned_to chain state (slice_set copy one.0 one.1) (sets ++ more))
    (λ one. assigned_to chain state (slice_set copy one.0 one.1) sets >>= λ next. assigned_to chain state next more)
    (λ one. assigned-append chain state (slice_set copy one.0 one.1) sets more)
    ∙ bind_assoc (assignment_of chain state set) (λ one. assigned_to chain state (slice_set copy one.0 one.1) sets) (λ next. assigned_to chain state next more)
    ∙ ap (λ (r : Result State TraceFault). r >>= λ next. assigned_to chain state next more) (sym (assigned-cons chain state copy set sets))

-- one branch further
pub branch_at : (chain : Chain) (state copy : State) (commands branches : List ℕ) (i : ℕ) (made : Result State TraceFault)
    → i < length commands → i < length branches
    → assigned_to chain state copy (sets_of chain (get_or commands i 0) (get_or branches i 0)) ≡ made
    → assigned_to chain state copy (all_sets chain (drop i commands) (drop i branches))
    ≡ (made >>= λ next. assigned_to chain state next (all_sets chain (drop (i + 1) commands) (drop (i + 1) branches)))
branch_at chain state copy commands branches i made in_commands in_branches so =
    at_drop_more (λ (cs : List ℕ). assigned_to chain state copy (all_sets chain cs (drop i branches))) commands i 0 in_commands
    ∙ at_drop_more (λ (bs : List ℕ). assigned_to chain state copy (all_sets chain (get_or commands i 0 ∷ drop (i + 1) commands) bs)) branches i 0 in_branches
    ∙ assigned-append chain state copy (sets_of chain (get_or commands i 0) (get_or branches i 0)) (all_sets chain (drop (i + 1) commands) (drop (i + 1) branches))
    ∙ ap (λ (r : Result State TraceFault). r >>= λ next. assigned_to chain state next (all_sets chain (drop (i + 1) commands) (drop (i + 1) branches))) so

-- without branches there are no assignments
no_sets : (chain : Chain) (commands : List ℕ) → all_sets chain commands [] ≡ []
no_sets chain [] = refl
no_sets chain (command ∷ commands) = refl

-- a command without a branch assigns nothing
pub past_branches : (chain : Chain) (state copy : State) (commands branches : List ℕ) (i : ℕ) → length branches ≤ i
    → assigned_to chain state copy (all_sets chain (drop i commands) (drop i branches)) ≡ Ok copy
past_branches chain state copy commands branches i past =
    ap (λ (bs : List ℕ). assigned_to chain state copy (all_sets chain (drop i commands) bs)) (drop_all i branches past)
    ∙ ap (assigned_to chain state copy) (no_sets chain (drop i commands))
