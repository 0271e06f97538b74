-- The branches that the commands of a choice take, and what they assign, from the compiled commands.
use Rattle.std.proofs.Common.{◌≡◌, ℕ, ◌+◌, ◌<◌, List, [], length, get_or, drop, sym, ap, ◌∙◌, inl, inr, arith, Result, Ok, Err, Some, None}
use Rattle.std.specs.Prelude.{ℤ, Option, slice_get}
use Rattle.std.specs.Option.{option_map_or}
use Rattle.std.proofs.lemmas.Option.{slice_get_cases, slice_get_within}
use Rattle.chain_model.specs.declared.outcome.TraceFault.{TraceFault}
use Rattle.chain_model.specs.declared.outcome.TraceFault.TheVariants.{Weights}
use Rattle.chain_model.specs.declared.expressions.Typed.{Typed}
use Rattle.chain_model.specs.declared.chain.Act.{Act}
use Rattle.chain_model.specs.declared.chain.Arm.{Arm}
use Rattle.chain_model.specs.declared.chain.Chain.{Chain}
use Rattle.chain_model.specs.Results.{◌>>=◌}
use Rattle.chain_model.specs.States.{State}
use Rattle.chain_model.specs.Step.{arms_of, weights_of, after_assignments, sets_of, all_sets, branch_of}
use Rattle.guard_code.specs.Tests.{IsSmall}
use Rattle.trace_meaning.specs.Assigning.{assigned_to}
use Rattle.trace_meaning.proofs.AssignmentLemmas.{branch_at}
use Rattle.successors.specs.declared.sides.Side.{Side}
use Rattle.successors.specs.declared.commands.Command.{Command}
use Rattle.successors.specs.Sides.{assigned_sides, AreSides}
use Rattle.successors.specs.Weighing.{weighed_branch, IsWeighing}
use Rattle.successors.specs.Commands.{AreCommands}
use Rattle.successors.proofs.WeightLemmas.{branch_weighed}

-- what is known of the weights of the command of a number
pub weighing_at : (chain : Chain) (commands : List Command) (n : ℕ) (command : Command) → AreCommands chain commands → Some command ≡ slice_get commands n
    → IsWeighing chain n command.weights
weighing_at chain commands n command are at = (are.each n command (sym at)).weighing

-- a command that is not there has no branches
no_arms : (chain : Chain) (commands : List Command) (n : ℕ) → AreCommands chain commands → None ≡ slice_get commands n → arms_of chain n ≡ []
no_arms chain commands n are none =
    elim (slice_get_cases chain.commands n).1 [
      | inl there ↦
          let within : n < length chain.commands = slice_get_within chain.commands n there.0 there.2 in
          elim (slice_get_cases commands n).1 [
            | inl here ↦ absurd (let some : None ≡ Some here.0 = none ∙ here.2 in cc)
            | inr past ↦ absurd (omega (arith, past.0, within, are.long))
          ]
      | inr past ↦ ap (λ (o : Option Act). option_map_or (λ (act : Act). act.branches) o []) past.1
    ]

-- so its weights don't add up
pub branch_past : (chain : Chain) (draw : ℕ → ℕ) (state : State) (position : ℕ) (commands : List Command) (n : ℕ) → AreCommands chain commands → None ≡ slice_get commands n
    → Err (Weights n) ≡ branch_of chain draw state position n
branch_past chain draw state position commands n are none =
    sym (branch_weighed chain draw state position n
    ∙ ap (λ (arms : List Arm). weights_of state n arms >>= weighed_branch draw position n) (no_arms chain commands n are none))

-- what sides assign is what the assignments do
assigned_same : (chain : Chain) (state copy : State) (sets : List (ℕ × Typed)) (sides : List Side) → AreSides chain sets sides → IsSmall state
    → assigned_to chain state copy sets ≡ assigned_sides state copy sides
assigned_same chain state copy sets sides are small =
    ap (λ (r : Result (List (ℕ × ℤ)) TraceFault). r >>= λ assigned. Ok (after_assignments copy assigned)) (are.same state small)

-- one branch further: what it made of the copy, or its fault
pub assigned_further : (chain : Chain) (state copy next : State) (chosen branches : List ℕ) (i : ℕ) (sides : List Side) (whole : Result State TraceFault)
    → i < length chosen → i < length branches → AreSides chain (sets_of chain (get_or chosen i 0) (get_or branches i 0)) sides → IsSmall state
    → assigned_sides state copy sides ≡ Ok next
    → assigned_to chain state copy (all_sets chain (drop i chosen) (drop i branches)) ≡ whole
    → assigned_to chain state next (all_sets chain (drop (i + 1) chosen) (drop (i + 1) branches)) ≡ whole
assigned_further chain state copy next chosen branches i sides whole lt room are small made so =
    sym (branch_at chain state copy chosen branches i (Ok next) lt room (assigned_same chain state copy _ sides are small ∙ made)) ∙ so

pub assigned_fault : (chain : Chain) (state copy : State) (chosen branches : List ℕ) (i : ℕ) (sides : List Side) (fault : TraceFault) (whole : Result State TraceFault)
    → i < length chosen → i < length branches → AreSides chain (sets_of chain (get_or chosen i 0) (get_or branches i 0)) sides → IsSmall state
    → assigned_sides state copy sides ≡ Err fault
    → assigned_to chain state copy (all_sets chain (drop i chosen) (drop i branches)) ≡ whole
    → whole ≡ Err fault
assigned_fault chain state copy chosen branches i sides fault whole lt room are small made so =
    sym so ∙ branch_at chain state copy chosen branches i (Err fault) lt room (assigned_same chain state copy _ sides are small ∙ made)
