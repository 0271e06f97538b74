-- The enabled commands by their guards' nodes, and the fault of a guard.
use Rattle.std.proofs.Common.{◌≡◌, ℕ, suc, ◌+◌, List, [], ◌∷◌, ◌++◌, length, map, take, refl, sym, ap, ◌∙◌, arith, Result, Ok, Err}
use Rattle.std.specs.Prelude.{nat_lt, if◌then◌else◌, MatchResult, OnOk, IfErr}
use Rattle.std.proofs.lemmas.List.{take-append-le, take_all}
use Rattle.chain_model.specs.declared.outcome.TraceFault.{TraceFault}
use Rattle.chain_model.specs.declared.outcome.TraceFault.TheVariants.{Choices}
use Rattle.chain_model.specs.declared.chain.Act.{Act}
use Rattle.chain_model.specs.declared.chain.Chain.{Chain}
use Rattle.chain_model.specs.declared.steps.Choice.{Choice}
use Rattle.chain_model.specs.Limits.{most_choices}
use Rattle.chain_model.specs.Results.{◌>>=◌, ◌>>◌, refuse_if}
use Rattle.chain_model.specs.States.{State}
use Rattle.chain_model.specs.Values.{Valued, truth}
use Rattle.chain_model.specs.Choices.{no_labels, value_in, enabled_from, choices_among, choices_of}
use Rattle.chain_model.specs.Step.{choice_of, draws_for}
use Rattle.guard_code.specs.declared.nodes.Node.{Node}
use Rattle.guard_code.specs.Tests.{IsSmall}
use Rattle.guard_code.specs.Wholes.{TruthResult, truth_of}
use Rattle.guard_code.specs.Nodes.{node_value}
use Rattle.trace_meaning.specs.declared.fault.StepFault.TheVariants.{Trace}
use Rattle.trace_meaning.proofs.StepLemmas.{choice_err}
use Rattle.successors.specs.Enabled.{numbers_with, AreGuards}
use Rattle.successors.specs.Commands.{AreGuardNodes, enabled_by}
use Rattle.successors.specs.Moves.{next_of}

-- the numbers of the commands whose guards say that they hold
enabled_told : ℕ → List TruthResult → Result (List ℕ) TraceFault
enabled_told number [] = Ok []
enabled_told number (told ∷ others) = told >>= λ holds. enabled_told (suc number) others >>= λ numbers. Ok (if holds then number ∷ numbers else numbers)

by_nodes : (n : ℕ) (state : State) (nodes : List Node) → enabled_by n state nodes ≡ enabled_told n (map (λ (node : Node). truth_of (node_value no_labels state node)) nodes)
unfolding enabled_told
by_nodes n state [] = refl
by_nodes n state (node ∷ nodes) =
    ap (λ (r : Result (List ℕ) TraceFault). truth_of (node_value no_labels state node) >>= λ holds. r >>= λ numbers. Ok (if holds then n ∷ numbers else numbers))
    (by_nodes (suc n) state nodes)

-- one guard, as a value or as a truth value
one_guard : (n : ℕ) (value : Valued) (others : Result (List ℕ) TraceFault)
    → (value >>= λ v. others >>= λ numbers. Ok (if truth v then n ∷ numbers else numbers)) ≡ (truth_of value >>= λ holds. others >>= λ numbers. Ok (if holds then n ∷ numbers else numbers))
one_guard n (Ok v) others = refl
one_guard n (Err fault) others = refl

by_acts : (n : ℕ) (state : State) (acts : List Act) → enabled_from n state acts ≡ enabled_told n (map (λ (act : Act). truth_of (value_in state act.guard)) acts)
unfolding enabled_told
by_acts n state [] = refl
by_acts n state (act ∷ acts) =
    ap (λ (r : Result (List ℕ) TraceFault). value_in state act.guard >>= λ v. r >>= λ numbers. Ok (if truth v then n ∷ numbers else numbers)) (by_acts (suc n) state acts)
    ∙ one_guard n (value_in state act.guard) (enabled_told (suc n) (map (λ (a : Act). truth_of (value_in state a.guard)) acts))

-- the nodes say what the guards say
pub enabled_same : (state : State) (acts : List Act) (nodes : List Node) → AreGuardNodes acts nodes → IsSmall state → enabled_from 0 state acts ≡ enabled_by 0 state nodes
enabled_same state acts nodes are small = by_acts 0 state acts ∙ ap (enabled_told 0) (sym (are.same state small)) ∙ sym (by_nodes 0 state nodes)

-- a guard's fault is the choices' fault
pub choices_fault : (chain : Chain) (state : State) (fault : TraceFault) → enabled_from 0 state chain.commands ≡ Err fault → choices_of chain state ≡ Err fault
unfolding choices_of
choices_fault chain state fault is = ap (λ (r : Result (List ℕ) TraceFault). r >>= λ enabled. Ok (choices_among chain enabled)) is

-- and the step's
pub next_fault : (chain : Chain) (draw : ℕ → ℕ) (state : State) (position : ℕ) (fault : TraceFault) → choices_of chain state ≡ Err fault
    → Err fault ≡ next_of chain draw (record { state = state; position = position })
next_fault chain draw state position fault is =
    sym (ap (λ r. r >>= λ step. Ok step.0)
    (choice_err chain draw state position position (Trace fault)
    (ap (λ (r : Result (List Choice) TraceFault).
    (r >>= λ choices. refuse_if (nat_lt most_choices (length choices)) Choices >> Ok choices) >>= λ cs. Ok (choice_of draw position cs, position + draws_for (length cs))) is)))

-- where a guard faults there are no choices
pub fault_made : (chain : Chain) (state : State) (fault : TraceFault) → choices_of chain state ≡ Err fault → ¬ (choices_of chain state ≡ Ok [])
fault_made chain state fault is none = let both : Err fault ≡ Ok [] = sym is ∙ none in absurd (cc)

-- bytes that were written say which commands are enabled
pub guards_written : (chain : Chain) (state : State) (nodes : List Node) (bytes read : List ℕ) → AreGuardNodes chain.commands nodes → IsSmall state
    → enabled_by 0 state nodes ≡ Ok (numbers_with 0 0 bytes) → read ≡ bytes → length bytes ≡ length chain.commands → AreGuards chain state 0 read
guards_written chain state nodes bytes read are small is same long = record {
  long = ap length same ∙ long;
  enabled = enabled_same state chain.commands nodes are small ∙ is ∙ ap (λ (b : List ℕ). Ok (numbers_with 0 0 b)) (sym same);
}

-- what was written stands at the front
pub written : (n : ℕ) (xs rest : List ℕ) → n ≡ length xs → take n (xs ++ rest) ≡ xs
written n xs rest is = take-append-le n xs rest (omega (arith, is)) ∙ take_all n xs (omega (arith, is))

-- what writing the bytes tells of the commands, or of the choices
pub filled : {X : Type 0} (chain : Chain) (state : State) (nodes : List Node) (bytes : List ℕ) (result : Result X TraceFault) → AreGuardNodes chain.commands nodes → IsSmall state
    → length bytes ≡ length chain.commands
    → MatchResult result (λ done. enabled_by 0 state nodes ≡ Ok (numbers_with 0 0 bytes)) (λ fault. enabled_by 0 state nodes ≡ Err fault)
    → OnOk result (AreGuards chain state 0 bytes) × IfErr result (λ fault. choices_of chain state ≡ Err fault)
filled chain state nodes bytes (Ok done) are small long is = (guards_written chain state nodes bytes bytes are small is refl long, tt)
filled chain state nodes bytes (Err fault) are small long is = (tt, choices_fault chain state fault (enabled_same state chain.commands nodes are small ∙ is))
