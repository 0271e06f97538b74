-- The list of a state's choices from its groups.
use Rattle.std.proofs.Common.{◌≡◌, ℕ, zero, suc, ◌+◌, ◌<◌, ◌≤◌, ◌^◌, List, [], ◌∷◌, ◌++◌, length, min, take, true, false, Result, Ok, Err, Some, refl, sym, ap, ◌∙◌, add-one, arith, nat_lt}
use Rattle.std.specs.Prelude.{slice_get, flat_map}
use Rattle.std.proofs.lemmas.Bool.Decides.{nat_tests}
use Rattle.chain_model.specs.declared.outcome.TraceFault.{TraceFault}
use Rattle.chain_model.specs.declared.outcome.TraceFault.TheVariants.{Choices}
use Rattle.chain_model.specs.declared.chain.Chain.{Chain}
use Rattle.chain_model.specs.declared.steps.Choice.{Choice}
use Rattle.chain_model.specs.Results.{◌>>=◌, ◌>>◌, refuse_if}
use Rattle.chain_model.specs.States.{State}
use Rattle.chain_model.specs.Choices.{choices_among, choices_of, enabled_from}
use Rattle.trace_meaning.specs.declared.groups.Group.{Group}
use Rattle.trace_meaning.specs.Groups.{group_choices, groups_of}
use Rattle.trace_meaning.specs.declared.fault.StepFault.{StepFault}
use Rattle.trace_meaning.specs.declared.fault.StepFault.TheVariants.{Trace, OutOfMemory}
use Rattle.trace_meaning.specs.Gives.{Gives}
use Rattle.trace_meaning.specs.Counted.{limited_choices, counted_choices}
use Rattle.trace_meaning.proofs.GroupLemmas.{groups_choices}

-- one more of the first items
taken_next : {A : Type 0} (xs : List A) (k : ℕ) (x : A) → slice_get xs k ≡ Some x → take (suc k) xs ≡ take k xs ++ (x ∷ [])
taken_next [] k x is = absurd (cc)
taken_next (y ∷ ys) zero x is = let same : y ≡ x = cc in ap (λ z. z ∷ []) same
taken_next (y ∷ ys) (suc k) x is = ap (λ zs. y ∷ zs) (taken_next ys k x is)

-- one choice more is listed
pub listed_next : (xs : List Choice) (k : ℕ) (choice : Choice) (list new : List Choice) → slice_get xs k ≡ Some choice → new ≡ list ++ (choice ∷ [])
    → list ≡ take k xs → new ≡ take (k + 1) xs
listed_next xs k choice list new is more so =
    let next : take (k + 1) xs ≡ take (suc k) xs = ap (λ n. take n xs) (add-one k) in
    more ∙ ap (λ ls. ls ++ (choice ∷ [])) so ∙ sym (taken_next xs k choice is) ∙ sym next

-- the choices among enabled commands, where they are not too many
limited : List Choice → Result (List Choice) TraceFault
limited choices = refuse_if (nat_lt (2 ^ 48) (length choices)) Choices >> Ok choices

-- they are those of the groups
limited_is : (chain : Chain) (state : State) (enabled : List ℕ) → enabled_from 0 state chain.commands ≡ Ok enabled
    → limited_choices chain state ≡ limited (flat_map group_choices (groups_of chain enabled))
unfolding limited choices_of
limited_is chain state enabled is =
    ap (λ (r : Result (List ℕ) TraceFault). (r >>= λ e. Ok (choices_among chain e)) >>= λ choices. refuse_if (nat_lt (2 ^ 48) (length choices)) Choices >> Ok choices) is
    ∙ ap limited (sym (groups_choices chain enabled))

-- too many are refused
refused : (xs : List Choice) → 2 ^ 48 < length xs → limited xs ≡ Err Choices
unfolding limited
refused xs many = let test : nat_lt (2 ^ 48) (length xs) ≡ true = grind (arith, nat_tests) in ap (λ b. refuse_if b Choices >> Ok xs) test

-- others are not
allowed : (xs : List Choice) → length xs ≤ 2 ^ 48 → limited xs ≡ Ok xs
unfolding limited
allowed xs few = let test : nat_lt (2 ^ 48) (length xs) ≡ false = grind (arith, nat_tests) in ap (λ b. refuse_if b Choices >> Ok xs) test

-- too many choices are a fault
pub limited_many : (chain : Chain) (state : State) (count : ℕ) (enabled : List ℕ) (groups : List Group) → enabled_from 0 state chain.commands ≡ Ok enabled → groups ≡ groups_of chain enabled
    → count ≡ min (length (flat_map group_choices groups)) (2 ^ 48 + 1) → 2 ^ 48 < count → limited_choices chain state ≡ Err Choices
limited_many chain state count enabled groups is made counts many =
    let size = ap (λ w. length (flat_map group_choices w)) made in
    limited_is chain state enabled is ∙ refused (flat_map group_choices (groups_of chain enabled)) (omega (arith, counts, size, many))

-- others are those of the groups
pub limited_few : (chain : Chain) (state : State) (count : ℕ) (enabled : List ℕ) (groups : List Group) → enabled_from 0 state chain.commands ≡ Ok enabled → groups ≡ groups_of chain enabled
    → count ≡ min (length (flat_map group_choices groups)) (2 ^ 48 + 1) → count ≤ 2 ^ 48 → limited_choices chain state ≡ Ok (flat_map group_choices groups)
limited_few chain state count enabled groups is made counts few =
    let size = ap (λ w. length (flat_map group_choices w)) made in
    limited_is chain state enabled is ∙ allowed (flat_map group_choices (groups_of chain enabled)) (omega (arith, counts, size, few))
    ∙ ap (λ w. Ok (flat_map group_choices w)) (sym made)

-- a fault of the guards is that of the whole
limited_fault : (chain : Chain) (state : State) (fault : TraceFault) → enabled_from 0 state chain.commands ≡ Err fault → limited_choices chain state ≡ Err fault
unfolding choices_of
limited_fault chain state fault is =
    ap (λ (r : Result (List ℕ) TraceFault). (r >>= λ e. Ok (choices_among chain e)) >>= λ choices. refuse_if (nat_lt (2 ^ 48) (length choices)) Choices >> Ok choices) is

-- and so is want of memory
pub limited_err : (chain : Chain) (state : State) (fault : StepFault) → Gives {X = List ℕ} (Err fault) (enabled_from 0 state chain.commands)
    → Gives {X = List Choice} (Err fault) (limited_choices chain state)
limited_err chain state (Trace fault) is = limited_fault chain state fault is
limited_err chain state (OutOfMemory error) is = tt

-- no more than all are taken
taken_less : {A : Type 0} (xs : List A) (n : ℕ) → take (min (length xs) n) xs ≡ take n xs
taken_less [] zero = refl
taken_less {A} [] (suc n) = let none : min 0 (suc n) ≡ 0 = omega arith in ap (λ k. take {A = A} k []) none
taken_less (x ∷ xs) zero = let none : min (suc (length xs)) 0 ≡ 0 = omega arith in ap (λ k. take k (x ∷ xs)) none
taken_less (x ∷ xs) (suc n) = let one : min (suc (length xs)) (suc n) ≡ suc (min (length xs) n) = omega arith in ap (λ k. take k (x ∷ xs)) one ∙ ap (λ zs. x ∷ zs) (taken_less xs n)

-- the choices are counted and the first of them listed
pub counted_few : (chain : Chain) (state : State) (most count shown : ℕ) (choices list : List Choice) → limited_choices chain state ≡ Ok choices
    → count ≡ length choices → shown ≡ min count most → list ≡ take shown choices → counted_choices chain state most ≡ Ok (count, list)
counted_few chain state most count shown choices list is counts shows lists =
    ap (λ (r : Result (List Choice) TraceFault). r >>= λ cs. Ok (length cs, take most cs)) is
    ∙ ap (λ n. Ok (n, take most choices)) (sym counts)
    ∙ ap (λ ls. Ok (count, ls)) (sym (taken_less choices most) ∙ ap (λ n. take (min n most) choices) (sym counts) ∙ ap (λ n. take n choices) (sym shows) ∙ sym lists)

-- a fault stays
pub counted_err : (chain : Chain) (state : State) (most : ℕ) (fault : StepFault) → Gives {X = List Choice} (Err fault) (limited_choices chain state)
    → Gives {X = ℕ × List Choice} (Err fault) (counted_choices chain state most)
counted_err chain state most (Trace fault) is = ap (λ (r : Result (List Choice) TraceFault). r >>= λ cs. Ok (length cs, take most cs)) is
counted_err chain state most (OutOfMemory error) is = tt
