-- Choices that stand one after another, each of equally many commands.
use Rattle.std.proofs.Common.{◌≡◌, inl, inr, ℕ, ◌+◌, ◌-◌, ◌*◌, ◌<◌, ◌≤◌, ◌^◌, List, length, take, drop, map, refl, sym, ap, ◌∙◌, subst, arith, Ok, Some}
use Rattle.std.specs.Prelude.{slice_get}
use Rattle.std.proofs.lemmas.Bool.{cases_lt}
use Rattle.std.proofs.lemmas.List.{length-drop, length-take-le, take_all, take-append-le, drop-append-le, take-append-drop}
use Rattle.chain_model.specs.declared.chain.Chain.{Chain}
use Rattle.chain_model.specs.declared.steps.Choice.{Choice}
use Rattle.chain_model.specs.States.{State}
use Rattle.chain_model.specs.Choices.{choices_of}
use Rattle.chain_model.specs.Step.{draws_for}
use Rattle.successors.specs.Moves.{commands_taken}
use Rattle.successors.specs.Choosing.{part_of, AreKnownChoices, IsOnlyChoice}
use Rattle.successors.proofs.MoveLemmas.{chosen}

-- a part is within those of all
pub part_within : (number count size : ℕ) → number < count → number * size + size ≤ count * size
part_within number count size lt = grind arith

-- the part of the first choice is the front
front_part : (commands : List ℕ) → part_of (length commands) commands 0 ≡ commands
front_part commands =
    (let none : 0 * length commands ≡ 0 = omega arith in ap (λ (k : ℕ). take (length commands) (drop k commands)) none)
    ∙ take_all (length commands) commands (omega arith)

-- the one choice is taken without a draw
pub only_taken : (chain : Chain) (draw : ℕ → ℕ) (state : State) (position : ℕ) (commands : List ℕ) → IsOnlyChoice chain state commands
    → commands_taken chain draw state position ≡ Ok (commands, position)
only_taken chain draw state position commands only =
    only.taken draw position 0 (omega arith) refl
    ∙ (λ i. Ok (front_part commands i, (let same : position + 0 ≡ position = omega arith in same i)))

-- what is known of choices that were found among lists of commands
pub all_known : (chain : Chain) (state : State) (count size : ℕ) (choices : List Choice) (lists : List (List ℕ)) (commands : List ℕ)
    → choices_of chain state ≡ Ok choices → map (λ (choice : Choice). choice.commands) choices ≡ lists → count ≡ length choices → 0 < count → count ≤ 2 ^ 48
    → length commands ≡ count * size → ((number : ℕ) → number < count → slice_get lists number ≡ Some (part_of size commands number))
    → AreKnownChoices chain state count size commands
all_known chain state count size choices lists commands made same counts some few long parts = record {
  some = some;
  few = few;
  long = long;
  taken = λ draw position number lt is.
      chosen chain draw state position count number (position + draws_for count) choices lists (part_of size commands number) made same counts few
      (sym is) (parts number lt) refl;
}

-- so it is with one choice
pub one_known : (chain : Chain) (state : State) (choices : List Choice) (lists : List (List ℕ)) (commands : List ℕ)
    → choices_of chain state ≡ Ok choices → map (λ (choice : Choice). choice.commands) choices ≡ lists → 1 ≡ length choices
    → slice_get lists 0 ≡ Some commands → IsOnlyChoice chain state commands
one_known chain state choices lists commands made same counts found =
    all_known chain state 1 (length commands) choices lists commands made same counts (omega arith) (omega arith) (omega arith)
    (λ number lt.
    let none : 0 ≡ number = omega (arith, lt) in
    subst (λ (k : ℕ). slice_get lists k ≡ Some (part_of (length commands) commands k)) none (found ∙ ap Some (sym (front_part commands))))

-- a part of what stands in front
pub part_front : (total size number : ℕ) (commands : List ℕ) → number * size + size ≤ total → total ≤ length commands
    → part_of size (take total commands) number ≡ part_of size commands number
part_front total size number commands within room =
    let from : ℕ = number * size in
    let front : List ℕ = take total commands in
    let rest : List ℕ = drop total commands in
    let long : length front ≡ total = length-take-le total commands room in
    let left : length (drop from front) ≡ length front - from = length-drop from front in
    sym (take-append-le size (drop from front) rest (omega (arith, left, long, within)))
    ∙ sym (ap (take size) (drop-append-le from front rest (omega (arith, long, within))))
    ∙ ap (λ (cs : List ℕ). take size (drop from cs)) (take-append-drop total commands)

-- a part that stands before what was written is as it was
pub part_before : (place size number : ℕ) (before now : List ℕ) → number < place → take (place * size) now ≡ take (place * size) before
    → place * size ≤ length before → length now ≡ length before → part_of size now number ≡ part_of size before number
part_before place size number before now lt same room long =
    let within : number * size + size ≤ place * size = part_within number place size lt in
    sym (part_front (place * size) size number now within (omega (arith, room, long)))
    ∙ ap (λ (cs : List ℕ). part_of size cs number) same
    ∙ part_front (place * size) size number before within room

-- one choice more is written
pub parts_next : (lists : List (List ℕ)) (place size : ℕ) (before now : List ℕ)
    → ((k : ℕ) → k < place → slice_get lists k ≡ Some (part_of size before k)) → slice_get lists place ≡ Some (part_of size now place)
    → take (place * size) now ≡ take (place * size) before → place * size ≤ length before → length now ≡ length before
    → (k : ℕ) → k < place + 1 → slice_get lists k ≡ Some (part_of size now k)
parts_next lists place size before now parts here same room long k lt = elim (cases_lt k place) as (λ _. slice_get lists k ≡ Some (part_of size now k)) [
  | inl less ↦ parts k less ∙ ap Some (sym (part_before place size k before now less same room long))
  | inr past ↦ (let is : place ≡ k = omega (arith, lt, past) in subst (λ (n : ℕ). slice_get lists n ≡ Some (part_of size now n)) is here)
]

-- all choices that were written, in front of what is given
pub all_written : (chain : Chain) (state : State) (count size : ℕ) (choices : List Choice) (lists : List (List ℕ)) (written : List ℕ)
    → choices_of chain state ≡ Ok choices → map (λ (choice : Choice). choice.commands) choices ≡ lists → count ≡ length choices → 0 < count → count ≤ 2 ^ 48
    → count * size ≤ length written → ((number : ℕ) → number < count → slice_get lists number ≡ Some (part_of size written number))
    → AreKnownChoices chain state count size (take (count * size) written)
all_written chain state count size choices lists written made same counts some few room parts =
    all_known chain state count size choices lists (take (count * size) written) made same counts some few (length-take-le (count * size) written room)
    (λ number lt. parts number lt ∙ ap Some (sym (part_front (count * size) size number written (part_within number count size lt) room)))
