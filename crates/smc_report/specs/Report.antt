-- The report of a run: its result, its counts, what was asked, and what its observers say.
use Rattle.std.specs.Prelude.{ℕ, ◌+◌, Bool, true, false, List, [], ◌∷◌, ◌++◌, codes, decimal}
use Rattle.std.specs.List.{concat, flat_map}
use Rattle.smc_num.specs.Fraction.{Fraction}
use Rattle.chain_model.specs.declared.job.Claim.{Claim}
use Rattle.wald_test.specs.declared.terms.Terms.{Terms}
use Rattle.wald_test.specs.Settings.{probabilities_of}
use Rattle.stop_rules.specs.declared.end.Cause.{Cause}
use Rattle.stop_rules.specs.declared.end.Cause.TheVariants.{Accept, Reject, Close, Limit, Fault}
use Rattle.stop_rules.specs.declared.end.End.{End}
use Rattle.stop_rules.specs.declared.goal.Goal.{Goal}
use Rattle.smc_settings.specs.declared.commands.TestWords.{TestWords}
use Rattle.smc_settings.specs.declared.commands.TestWords.TheVariants as test
use Rattle.smc_settings.specs.declared.commands.Settings.{Settings}
use Rattle.smc_settings.specs.declared.commands.Settings.TheVariants as command
use Rattle.run_goal.specs.Goal.{tested, IsGoal}
use Rattle.smc_report.specs.Texts.{line, fraction_text, quotient}

-- the result in words
abbrev pub result_words : Cause → List ℕ
result_words Accept = codes "accepted"
result_words Reject = codes "rejected"
result_words Close = codes "undecided (close)"
result_words Limit = codes "undecided (limit)"
result_words Fault = codes "fault"

-- of a fault three lines: the number of the trace, which is counted in neither count, the step, and the cause
abbrev pub fault_lines : End → ℕ → List ℕ → List ℕ
fault_lines end step cause =
    line (codes "trace: ") (decimal (end.d + end.f))
    (line (codes "step: ") (decimal step)
    (line (codes "cause: ") cause []))

-- the lines of the step and the cause, which the end by a fault alone has
abbrev pub cause_lines : Cause → End → ℕ → List ℕ → List ℕ
cause_lines Accept end step cause = []
cause_lines Reject end step cause = []
cause_lines Close end step cause = []
cause_lines Limit end step cause = []
cause_lines Fault end step cause = fault_lines end step cause

-- the lines of the counts: how many traces were drawn, how many of them succeeded, and how many failed
abbrev pub count_lines : End → List ℕ
count_lines end =
    line (codes "samples: ") (decimal (end.d + end.f))
    (line (codes "successes: ") (decimal end.d)
    (line (codes "failures: ") (decimal end.f) []))

-- the claim in words
abbrev pub claim_words : Bool → List ℕ
claim_words false = codes "at least"
claim_words true = codes "at most"

-- Wald's test in words: the two probabilities in lowest terms, and the two error probabilities
abbrev pub wald_words : Terms → Fraction → Fraction → List ℕ
wald_words p alpha beta =
    codes "wald p0 " ++ (fraction_text (quotient p.first p.parts) ++ (codes " p1 "
    ++ (fraction_text (quotient p.second p.parts) ++ (codes " alpha " ++ (fraction_text alpha
    ++ (codes " beta " ++ fraction_text beta))))))

-- the test in words
abbrev pub test_words : Claim → TestWords → List ℕ
test_words claim (test.Plan n c) = codes "plan " ++ (decimal n ++ (codes "," ++ decimal c))
test_words claim (test.Wald delta alpha beta) = wald_words (probabilities_of (tested claim) delta) alpha beta

-- the lines of what was asked: the claim, the test, how many traces are drawn at most, and the seed of their draws
abbrev pub asked_lines : Claim → TestWords → ℕ → ℕ → List ℕ
asked_lines claim words limit seed =
    line (codes "claim: ") (claim_words claim.at_most)
    (line (codes "test: ") (test_words claim words)
    (line (codes "limit: ") (decimal limit)
    (line (codes "seed: ") (decimal seed) [])))

-- the lines of the observers, in their order
abbrev pub observer_lines : List (List ℕ) → List ℕ
observer_lines lines = flat_map (λ text. text ++ codes "\n") lines

-- the line of the result
abbrev pub result_line : Cause → List ℕ
result_line cause = line (codes "result: ") (result_words cause) []

-- the report of `check`, block after block; other settings ask for none
abbrev pub check_report : Settings → Claim → End → ℕ → List ℕ → List (List ℕ) → List ℕ
check_report (command.Check model property given seed words limit workers) claim end step cause lines =
    concat (result_line end.cause ∷ cause_lines end.cause end step cause ∷ count_lines end
    ∷ asked_lines claim words limit seed ∷ observer_lines lines ∷ [])
check_report (command.Trace model given seed index steps) claim end step cause lines = []
check_report (command.Expand model) claim end step cause lines = []
check_report (command.Make stations seed workers) claim end step cause lines = []
check_report command.Help claim end step cause lines = []

-- a goal is made from settings of `check` and a claim
abbrev pub IsGoalOf : Settings → Claim → Goal → Type 0
IsGoalOf (command.Check model property given seed words limit workers) claim goal = IsGoal claim words limit goal
IsGoalOf (command.Trace model given seed index steps) claim goal = ⊥
IsGoalOf (command.Expand model) claim goal = ⊥
IsGoalOf (command.Make stations seed workers) claim goal = ⊥
IsGoalOf command.Help claim goal = ⊥
