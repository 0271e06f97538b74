-- A turn of the loop over the states of a trace, as its code sees it.
use Rattle.std.proofs.Common.{◌≡◌, ℕ, suc, ◌+◌, ◌<◌, List, ◌++◌, Result, Ok, Err, IsErr, refl, subst, add-one}
use Rattle.std.specs.Prelude.{IsOkAnd}
use Rattle.trace_streams.specs.Draws.{draw_at}
use Rattle.chain_model.specs.declared.outcome.TraceFault.{TraceFault}
use Rattle.chain_model.specs.declared.chain.Chain.{Chain}
use Rattle.chain_model.specs.declared.steps.Taken.{Taken}
use Rattle.chain_model.specs.Step.{Configuration, step_of}
use Rattle.trace_report.specs.States.{configuration_after}
use Rattle.trace_report.specs.Lines.{state_line, draws_line}
use Rattle.trace_report.specs.Report.{lines_from, trace_text}
use Rattle.trace_report.proofs.ReportLemmas.{IsTold, told_next, told_whole, told_fault, fault_ends}

-- the next state is told
next_told : (chain : Chain) (draw : ℕ → ℕ) (k : ℕ) (from next : Configuration) (told : List ℕ)
    (made : Result (Configuration × Taken) TraceFault) → IsTold chain draw k from told → step_of chain draw from ≡ made
    → IsOkAnd made (λ step. step.0 ≡ next) → IsTold chain draw (suc k) next (told ++ lines_from chain draw k from)
next_told chain draw k from next told (Ok step) so_far is same =
    let P : Configuration → Type 0 = λ to. IsTold chain draw (suc k) to (told ++ lines_from chain draw k from) in
    subst P same (told_next chain draw k from step.0 step.1 told so_far is)
next_told chain draw k from next told (Err fault) so_far is same = absurd same

-- a step leads on, with draws of this stream
pub turns_on : (chain : Chain) (seed index s t k : ℕ) (from next : Configuration) (told after : List ℕ)
    → s ≡ seed → t ≡ index → IsTold chain (draw_at seed index) k from told
    → IsOkAnd (step_of chain (draw_at s t) from) (λ step. step.0 ≡ next)
    → after ≡ told ++ lines_from chain (draw_at s t) k from → IsTold chain (draw_at seed index) (k + 1) next after
turns_on chain seed index s t k from next told after same_seed same_index so_far step lines =
    let led = rw (same_seed, same_index) at step in
    let appended = rw (same_seed, same_index) at lines in
    rw (add-one, appended) (next_told chain (draw_at seed index) k from next told _ so_far refl led)

-- the text of a trace whose step faults
fault_told : (chain : Chain) (draw : ℕ → ℕ) (k steps : ℕ) (from : Configuration) (told : List ℕ)
    (made : Result (Configuration × Taken) TraceFault) → IsTold chain draw k from told
    → step_of chain draw from ≡ made → IsErr made → k < steps
    → (told ++ lines_from chain draw k from) ++ draws_line from.position ≡ trace_text chain draw steps
fault_told chain draw k steps from told (Ok step) so_far is faults within = cc
fault_told chain draw k steps from told (Err fault) so_far is faults within =
    told_fault chain draw k steps from fault told so_far is within

-- its last state was not made
fault_made : (chain : Chain) (draw : ℕ → ℕ) (k steps : ℕ) (from : Configuration) (told : List ℕ)
    (made : Result (Configuration × Taken) TraceFault) → IsTold chain draw k from told
    → step_of chain draw from ≡ made → IsErr made → k < steps
    → IsErr (configuration_after chain draw steps)
fault_made chain draw k steps from told (Ok step) so_far is faults within = cc
fault_made chain draw k steps from told (Err fault) so_far is faults within =
    rw (fault_ends chain draw k steps from fault told so_far is within) refl

-- a step faults, with draws of this stream: all is told
pub turns_off : (chain : Chain) (seed index s t k steps place : ℕ) (from : Configuration) (told after whole : List ℕ)
    → s ≡ seed → t ≡ index → IsTold chain (draw_at seed index) k from told
    → IsErr (step_of chain (draw_at s t) from) → after ≡ told ++ lines_from chain (draw_at s t) k from
    → place ≡ from.position → whole ≡ after ++ draws_line place → k < steps
    → whole ≡ trace_text chain (draw_at seed index) steps
turns_off chain seed index s t k steps place from told after whole seeds indexes so_far faults lines here all within =
    let faulty = rw (seeds, indexes) at faults in
    let appended = rw (seeds, indexes) at lines in
    rw (all, here, appended) (fault_told chain (draw_at seed index) k steps from told _ so_far refl faulty within)

-- and a state was not made
pub turns_to_fault : (chain : Chain) (seed index s t k steps : ℕ) (from : Configuration) (told : List ℕ)
    → s ≡ seed → t ≡ index → IsTold chain (draw_at seed index) k from told
    → IsErr (step_of chain (draw_at s t) from) → k < steps
    → IsErr (configuration_after chain (draw_at seed index) steps)
turns_to_fault chain seed index s t k steps from told same_seed same_index so_far faults within =
    let faulty = rw (same_seed, same_index) at faults in
    fault_made chain (draw_at seed index) k steps from told _ so_far refl faulty within

-- all states were made: all is told
pub turns_end : (chain : Chain) (draw : ℕ → ℕ) (k steps place : ℕ) (from : Configuration) (told after whole : List ℕ)
    → IsTold chain draw k from told → k ≡ steps → after ≡ told ++ state_line chain steps from.state
    → place ≡ from.position → whole ≡ after ++ draws_line place → whole ≡ trace_text chain draw steps
turns_end chain draw k steps place from told after whole so_far past lines here all =
    let last = rw past at so_far in
    rw (all, here, lines) (told_whole chain draw steps from told last)
