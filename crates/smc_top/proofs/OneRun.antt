-- What is asked has one run, and the run one report.
use Rattle.std.proofs.Common.{◌≡◌, ◌+◌, ◌≤◌, ◌<◌, ◌^◌, ℕ, zero, suc, Bool, List, [], ◌∷◌, Option, Some, refl, ap, sym, ◌∙◌, subst, arith, length, map, slice_get}
use Rattle.std.proofs.lemmas.Option.{same_Some}
use Rattle.chain_model.specs.declared.chain.Chain.{Chain}
use Rattle.chain_model.specs.declared.job.Job.{Job}
use Rattle.chain_model.specs.declared.job.Claim.{Claim}
use Rattle.chain_model.specs.declared.outcome.TraceFault.{TraceFault}
use Rattle.chain_model.specs.declared.outcome.Outcome.{Outcome}
use Rattle.chain_model.specs.declared.outcome.Outcome.TheVariants as outcome
use Rattle.chain_model.specs.Outcome.{IsOutcome}
use Rattle.chain_model.proofs.OutcomeLemmas.{one_outcome_at_most}
use Rattle.stop_rules.specs.declared.end.Cause.{Cause}
use Rattle.stop_rules.specs.declared.end.Cause.TheVariants as cause
use Rattle.stop_rules.specs.declared.end.End.{End}
use Rattle.stop_rules.specs.declared.goal.Goal.{Goal}
use Rattle.stop_rules.specs.Observers.{Observation}
use Rattle.stop_rules.specs.Run.{EndsRun}
use Rattle.stop_rules.specs.Seats.{watching, seat_after_all, line_at}
use Rattle.stop_rules.specs.Seen.{SeenAt, AreSeen}
use Rattle.stop_rules.proofs.SeenLemmas.{get_some, sees_one_of}
use Rattle.sampling_run.specs.Drawn.{AreLines}
use Rattle.smc_settings.specs.declared.commands.Settings.{Settings}
use Rattle.smc_settings.specs.declared.commands.Settings.TheVariants as command
use Rattle.smc_report.specs.Causes.{cause_text}
use Rattle.smc_report.specs.Report.{cause_lines, check_report}
use Rattle.smc_top.specs.declared.asking.Asked.{Asked}
use Rattle.smc_top.specs.declared.report.Report.{Report}
use Rattle.smc_top.specs.Report.{IsRun, status_of_run}

-- a run of a job has at most one end
abbrev pub OneEnd : Type 0
OneEnd = (job : Job) (goal : Goal) (a b : End) → EndsRun job goal a → EndsRun job goal b → a ≡ b

-- reports of the same status and bytes are one
pub report_same : (a b : Report) → a.status ≡ b.status → a.bytes ≡ b.bytes → a ≡ b
report_same a b status bytes = λ i. record { status = status i; bytes = bytes i }

-- lists of one length of whose items the same is seen, where one thing is seen at each place
lists_same : {X : Type 0} (seen_at : ℕ → X → Type 0) → ((k : ℕ) (a b : X) → seen_at k a → seen_at k b → a ≡ b) → (xs ys : List X) → length xs ≡ length ys
    → ((k : ℕ) (x : X) → slice_get xs k ≡ Some x → seen_at k x) → ((k : ℕ) (x : X) → slice_get ys k ≡ Some x → seen_at k x) → xs ≡ ys
lists_same seen_at one [] [] long p q = refl
lists_same seen_at one [] (y ∷ ys) long p q = absurd (omega (arith, long))
lists_same seen_at one (x ∷ xs) [] long p q = absurd (omega (arith, long))
lists_same seen_at one (x ∷ xs) (y ∷ ys) long p q =
    let first : x ≡ y = one 0 x y (p 0 x refl) (q 0 y refl) in
    let rest : xs ≡ ys = lists_same (λ k v. seen_at (suc k) v) (λ k. one (suc k)) xs ys (omega (arith, long)) (λ k. p (suc k)) (λ k. q (suc k)) in
    λ i. first i ∷ rest i

-- at most one truth value is seen of a trace
one_truth : (job : Job) (goal : Goal) (k : ℕ) (a b : Bool) → SeenAt (IsOutcome job) goal.flip (0 + k) (Some a) → SeenAt (IsOutcome job) goal.flip (0 + k) (Some b) → a ≡ b
one_truth job goal k a b p q = same_Some a b (sees_one_of (IsOutcome job) goal.flip 0 (one_outcome_at_most job) k (Some a) (Some b) p q)

-- the observers say one thing at most after a run
pub lines_same : (job : Job) (goal : Goal) (watched : List Observation) (end : End) (a b : List (List ℕ)) → AreLines job goal watched end a → AreLines job goal watched end b → a ≡ b
lines_same job goal watched end a b p q =
    let truths : p.truths ≡ q.truths = lists_same (λ k truth. SeenAt (IsOutcome job) goal.flip (0 + k) (Some truth)) (one_truth job goal) p.truths q.truths (p.all ∙ sym q.all)
    (λ k truth there. p.seen k (Some truth) (get_some p.truths k truth there)) (λ k truth there. q.seen k (Some truth) (get_some q.truths k truth there)) in
    p.lines ∙ (ap (λ (t : List Bool). map (λ before. line_at (seat_after_all t (watching before))) watched) truths ∙ sym q.lines)

-- the step and the cause are told of a fault alone
causes_same : (found : Cause) (end : End) (m n : ℕ) (s t : List ℕ) → (found ≡ cause.Fault → (m ≡ n) × (s ≡ t)) → cause_lines found end m s ≡ cause_lines found end n t
causes_same cause.Accept end m n s t same = refl
causes_same cause.Reject end m n s t same = refl
causes_same cause.Close end m n s t same = refl
causes_same cause.Limit end m n s t same = refl
causes_same cause.Fault end m n s t same = let both = same refl in λ i. cause_lines cause.Fault end (both.0 i) (both.1 i)

-- a fault is told by one step and one cause
one_fault : (job : Job) (trace m n : ℕ) (f g : TraceFault) → IsOutcome job trace (outcome.Fault m f) → IsOutcome job trace (outcome.Fault n g) → (m ≡ n) × (f ≡ g)
one_fault job trace m n f g p q =
    let same : outcome.Fault m f ≡ outcome.Fault n g = one_outcome_at_most job trace (outcome.Fault m f) (outcome.Fault n g) p q in
    (cc, cc)

-- the bytes of a report, from what they are made of
bytes_same : (settings : Settings) (claim : Claim) (end : End) (m n : ℕ) (s t : List ℕ) (lines : List (List ℕ)) → (end.cause ≡ cause.Fault → (m ≡ n) × (s ≡ t))
    → check_report settings claim end m s lines ≡ check_report settings claim end n t lines
bytes_same (command.Check model property given seed test limit workers) claim end m n s t lines same =
    let causes = causes_same end.cause end m n s t same in rw causes refl
bytes_same (command.Trace model given seed index steps) claim end m n s t lines same = refl
bytes_same (command.Expand model) claim end m n s t lines same = refl
bytes_same (command.Make stations seed workers) claim end m n s t lines same = refl
bytes_same command.Help claim end m n s t lines same = refl

-- the bytes of the report of a run, over the end of another report of it
pub runs_same : OneEnd → (settings : Settings) (watched : List Observation) (asked : Asked) (a b : Report) → IsRun settings watched asked a → IsRun settings watched asked b → a ≡ b
runs_same one settings watched asked a b p q =
    let ends : p.end ≡ q.end = one asked.job asked.goal p.end q.end p.ends q.ends in
    let observed : AreLines asked.job asked.goal watched p.end q.lines = subst (λ (e : End). AreLines asked.job asked.goal watched e q.lines) (sym ends) q.observed in
    let lines : p.lines ≡ q.lines = lines_same asked.job asked.goal watched p.end p.lines q.lines p.observed observed in
    let faulted : p.end.cause ≡ cause.Fault → IsOutcome asked.job (p.end.d + p.end.f) (outcome.Fault q.step q.fault) =
    subst (λ (e : End). e.cause ≡ cause.Fault → IsOutcome asked.job (e.d + e.f) (outcome.Fault q.step q.fault)) (sym ends) q.faulted in
    let told : p.end.cause ≡ cause.Fault → (p.step ≡ q.step) × (cause_text asked.job.chain p.fault ≡ cause_text asked.job.chain q.fault) =
    (λ is. let both = one_fault asked.job (p.end.d + p.end.f) p.step q.step p.fault q.fault (p.faulted is) (faulted is) in (both.0, ap (cause_text asked.job.chain) both.1)) in
    report_same a b (p.status ∙ (ap (λ (e : End). status_of_run e.cause) ends ∙ sym q.status))
    (p.bytes ∙ (bytes_same settings asked.claim p.end p.step q.step (cause_text asked.job.chain p.fault) (cause_text asked.job.chain q.fault) p.lines told
    ∙ (ap (check_report settings asked.claim p.end q.step (cause_text asked.job.chain q.fault)) lines
    ∙ (ap (λ (e : End). check_report settings asked.claim e q.step (cause_text asked.job.chain q.fault) q.lines) ends ∙ sym q.bytes))))
