-- What commands make of a state, command by command, whatever is drawn.
use Rattle.std.proofs.Common.{◌≡◌, ℕ, ◌+◌, List, [], ◌∷◌, map, All, Bool, true, false, sym, ap, ◌∙◌, subst, arith, nat_lt, Result, Ok}
use Rattle.std.specs.Prelude.{ℤ, not, slice_get, if◌then◌else◌, IfOk}
use Rattle.std.proofs.lemmas.Bool.{not-false}
use Rattle.std.proofs.lemmas.List.Elements.{All-cons, All-nil}
use Rattle.std.proofs.lemmas.List.Sums.{sum_by-cons}
use Rattle.chain_model.specs.declared.outcome.TraceFault.{TraceFault}
use Rattle.chain_model.specs.declared.outcome.TraceFault.TheVariants.{Range}
use Rattle.chain_model.specs.declared.expressions.Typed.{Typed}
use Rattle.chain_model.specs.declared.chain.Chain.{Chain}
use Rattle.chain_model.specs.Results.{◌>>=◌, ◌>>◌, refuse_if, each}
use Rattle.chain_model.specs.States.{State, IsState}
use Rattle.chain_model.specs.Choices.{value_in}
use Rattle.chain_model.specs.Step.{stored, is_within, assignment_of, after_assignments, sets_of, all_sets, branch_of, branches_of, command_draws}
use Rattle.chain_model.proofs.StateLemmas.{assignments_keep}
use Rattle.chain_model.proofs.StepLemmas.{bind_parts, test_parts}
use Rattle.trace_meaning.specs.Assigning.{assigned_to}
use Rattle.trace_meaning.proofs.AssignmentLemmas.{bind_assoc, bind_same, assigned-append}
use Rattle.successors.specs.declared.next.Next.{Next}
use Rattle.successors.specs.declared.next.Next.TheVariants as n
use Rattle.successors.specs.Moves.{next_of}
use Rattle.successors.specs.Nexts.{IsNext}
use Rattle.successors.specs.Choosing.{IsOnlyChoice}
use Rattle.successors.specs.Branching.{IsSure, IsByDraw, made_by, draws_of, IsLed}
use Rattle.successors.proofs.BranchingLemmas.{either_way}
use Rattle.successors.proofs.ChoiceLemmas.{only_taken}
use Rattle.successors.proofs.MoveLemmas.{next_after}

-- what is assigned is within its variable's range
abbrev Inside : Chain → ℕ × ℤ → Type 0
Inside chain one = is_within (slice_get chain.vars one.0) one.1 ≡ true

inside_one : (chain : Chain) (state : State) (set : ℕ × Typed) → IfOk (assignment_of chain state set) (Inside chain)
unfolding assignment_of
inside_one chain state set =
    bind_parts (value_in state set.1) (λ value. refuse_if (not (is_within (slice_get chain.vars set.0) (stored value))) (Range set.0) >> Ok (set.0, stored value)) (Inside chain)
    (λ value _. test_parts (not (is_within (slice_get chain.vars set.0) (stored value))) (Range set.0) (Ok (set.0, stored value)) (Inside chain)
    (λ passes. not-false (is_within (slice_get chain.vars set.0) (stored value)) passes))

inside_all : (chain : Chain) (state : State) (sets : List (ℕ × Typed)) → IfOk (each (assignment_of chain state) sets) (All (Inside chain))
inside_all chain state [] = All-nil (Inside chain)
inside_all chain state (set ∷ sets) =
    bind_parts (assignment_of chain state set) (λ one. each (assignment_of chain state) sets >>= λ others. Ok (one ∷ others)) (All (Inside chain))
    (λ one made. bind_parts (each (assignment_of chain state) sets) (λ others. Ok (one ∷ others)) (All (Inside chain))
    (λ others rest. All-cons (Inside chain) one others
    (subst (λ (r : Result (ℕ × ℤ) TraceFault). IfOk r (Inside chain)) made (inside_one chain state set))
    (subst (λ (r : Result (List (ℕ × ℤ)) TraceFault). IfOk r (All (Inside chain))) rest (inside_all chain state sets))))

-- so a copy that is a state of the chain stays one
pub fits_after : (chain : Chain) (state copy next : State) (sets : List (ℕ × Typed)) → IsState chain copy → assigned_to chain state copy sets ≡ Ok next → IsState chain next
fits_after chain state copy next sets fits made =
    subst (λ (r : Result State TraceFault). IfOk r (IsState chain)) made
    (bind_parts (each (assignment_of chain state) sets) (λ assigned. Ok (after_assignments copy assigned)) (IsState chain)
    (λ assigned read. assignments_keep chain assigned copy fits
    (subst (λ (r : Result (List (ℕ × ℤ)) TraceFault). IfOk r (All (Inside chain))) read (inside_all chain state sets))))

-- one command further in a copy
on_from : (chain : Chain) (draw : ℕ → ℕ) (state copy next : State) (position command branch : ℕ) (left : List ℕ)
    → branch_of chain draw state position command ≡ Ok branch → assigned_to chain state copy (sets_of chain command branch) ≡ Ok next
    → made_by chain draw state position copy (command ∷ left) ≡ made_by chain draw state (position + command_draws chain command) next left
on_from chain draw state copy next position command branch left taken made =
    let others : Result (List ℕ) TraceFault = branches_of chain draw state (position + command_draws chain command) left in
    ap (λ (r : Result ℕ TraceFault). (r >>= λ b. others >>= λ bs. Ok (b ∷ bs)) >>= λ bs. assigned_to chain state copy (all_sets chain (command ∷ left) bs)) taken
    ∙ sym (bind_assoc others (λ bs. Ok (branch ∷ bs)) (λ bs. assigned_to chain state copy (all_sets chain (command ∷ left) bs)))
    ∙ bind_same others (λ bs. assigned_to chain state copy (all_sets chain (command ∷ left) (branch ∷ bs))) (λ bs. assigned_to chain state next (all_sets chain left bs))
    (λ bs. assigned-append chain state copy (sets_of chain command branch) (all_sets chain left bs)
    ∙ ap (λ (r : Result State TraceFault). r >>= λ after. assigned_to chain state after (all_sets chain left bs)) made)

-- and in one of two copies
on_from_either : (b : Bool) (chain : Chain) (draw : ℕ → ℕ) (state first second nearer further : State) (position command below above : ℕ) (left : List ℕ)
    → branch_of chain draw state position command ≡ Ok (if b then below else above)
    → assigned_to chain state first (sets_of chain command below) ≡ Ok nearer → assigned_to chain state second (sets_of chain command above) ≡ Ok further
    → made_by chain draw state position (if b then first else second) (command ∷ left)
    ≡ made_by chain draw state (position + command_draws chain command) (if b then nearer else further) left
on_from_either true chain draw state first second nearer further position command below above left taken made other =
    on_from chain draw state first nearer position command below left taken made
on_from_either false chain draw state first second nearer further position command below above left taken made other =
    on_from chain draw state second further position command above left taken other

-- the draws of one command and of the others
draws_more : (chain : Chain) (command : ℕ) (left : List ℕ) → draws_of chain (command ∷ left) ≡ command_draws chain command + draws_of chain left
draws_more chain command left = sum_by-cons (λ (n : ℕ). n) (command_draws chain command) (map (command_draws chain) left)

-- one command further, whose branch is sure
pub surely : (chain : Chain) (state first second nearer further : State) (command : ℕ) (all left : List ℕ) (told : Next) → IsSure chain state command
    → assigned_to chain state first (sets_of chain command 0) ≡ Ok nearer → assigned_to chain state second (sets_of chain command 0) ≡ Ok further
    → IsLed chain state all (command ∷ left) told first second → IsLed chain state all left told nearer further
surely chain state first second nearer further command all left n.Stays sure made other led = led
surely chain state first second nearer further command all left n.Untold sure made other led = tt
surely chain state first second nearer further command all left n.One sure made other led = (
  record {
    same = λ draw position.
        led.0.same draw position
        ∙ on_from chain draw state first nearer position command 0 left (sure.branch draw position) made
        ∙ ap (λ p. made_by chain draw state p nearer left) (omega (arith, sure.draws));
    draws = omega (arith, led.0.draws, draws_more chain command left, sure.draws);
    fits = fits_after chain state first nearer (sets_of chain command 0) led.0.fits made;
  },
  let both : Ok further ≡ Ok nearer = sym other ∙ ap (λ (s : State). assigned_to chain state s (sets_of chain command 0)) led.1 ∙ made in cc,
)
surely chain state first second nearer further command all left (n.Drawn threshold) sure made other led = record {
  same = λ draw position word.
      led.same draw position word
      ∙ on_from_either (nat_lt (draw position) threshold) chain draw state first second nearer further (position + 1) command 0 0 left
      (sure.branch draw (position + 1) ∙ ap Ok (sym (either_way (nat_lt (draw position) threshold) 0))) made other
      ∙ ap (λ p. made_by chain draw state p (if nat_lt (draw position) threshold then nearer else further) left) (omega (arith, sure.draws));
  draws = omega (arith, led.draws, draws_more chain command left, sure.draws);
  first_fits = fits_after chain state first nearer (sets_of chain command 0) led.first_fits made;
  second_fits = fits_after chain state second further (sets_of chain command 0) led.second_fits other;
}

-- one command further, whose branch a draw decides
pub by_draw : (chain : Chain) (state first second nearer further : State) (command threshold below above : ℕ) (all left : List ℕ) → IsByDraw chain state command threshold below above
    → assigned_to chain state first (sets_of chain command below) ≡ Ok nearer → assigned_to chain state second (sets_of chain command above) ≡ Ok further
    → IsLed chain state all (command ∷ left) n.One first second → IsLed chain state all left (n.Drawn threshold) nearer further
by_draw chain state first second nearer further command threshold below above all left is made other led = record {
  same = λ draw position word.
      led.0.same draw position
      ∙ ap (λ (s : State). made_by chain draw state position s (command ∷ left))
      (sym (either_way (nat_lt (draw position) threshold) first) ∙ ap (λ (s : State). if nat_lt (draw position) threshold then first else s) (sym led.1))
      ∙ on_from_either (nat_lt (draw position) threshold) chain draw state first second nearer further position command below above left
      (is.branch draw position word) made other
      ∙ ap (λ k. made_by chain draw state (position + k) (if nat_lt (draw position) threshold then nearer else further) left) is.draws;
  draws = omega (arith, led.0.draws, draws_more chain command left, is.draws);
  first_fits = fits_after chain state first nearer (sets_of chain command below) led.0.fits made;
  second_fits = fits_after chain state second further (sets_of chain command above) (subst (IsState chain) (sym led.1) led.0.fits) other;
}

-- what commands of the one choice make is the step's
stepped : (chain : Chain) (draw : ℕ → ℕ) (state next : State) (position after : ℕ) (commands : List ℕ) → IsOnlyChoice chain state commands
    → made_by chain draw state position state commands ≡ Ok next → position + draws_of chain commands ≡ after
    → next_of chain draw (record { state = state; position = position }) ≡ Ok (record { state = next; position = after })
stepped chain draw state next position after commands only made moved =
    next_after chain draw state position position commands (only_taken chain draw state position commands only)
    ∙ bind_assoc (branches_of chain draw state position commands) (λ bs. assigned_to chain state state (all_sets chain commands bs))
    (λ (s : State). Ok (record { state = s; position = position + draws_of chain commands }))
    ∙ ap (λ (r : Result State TraceFault). r >>= λ s. Ok (record { state = s; position = position + draws_of chain commands })) made
    ∙ ap (λ p. Ok (record { state = next; position = p })) moved

-- after the last command the copies are the next states
pub led_last : (chain : Chain) (state first second : State) (commands : List ℕ) (told : Next) → IsOnlyChoice chain state commands
    → IsLed chain state commands [] told first second → IsNext chain state told first second
led_last chain state first second commands n.Stays only led = absurd led
led_last chain state first second commands n.Untold only led = tt
led_last chain state first second commands n.One only led = record {
  step = λ draw position.
      stepped chain draw state first position position commands only (led.0.same draw position) (omega (arith, led.0.draws));
  fits = led.0.fits;
}
led_last chain state first second commands (n.Drawn threshold) only led = record {
  step = λ draw position word.
      stepped chain draw state (if nat_lt (draw position) threshold then first else second) position (position + 1) commands only (led.same draw position word)
      (omega (arith, led.draws));
  first_fits = led.first_fits;
  second_fits = led.second_fits;
}
