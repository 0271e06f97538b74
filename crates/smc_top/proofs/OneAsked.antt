-- A text is asked one thing, or refused for one reason.
use Rattle.std.proofs.Common.{◌≡◌, ◌≤◌, ◌<◌, ◌^◌, ℕ, List, Option, Some, None, Result, Ok, Err, refl, ap, sym, ◌∙◌, subst}
use Rattle.std.proofs.Props.{props}
use mathlib.Core.HLevel.{is_prop→PathP}
use mathlib.Core.Path.{PathP}
use Rattle.chain_model.specs.declared.constants.Given.{Given}
use Rattle.chain_model.specs.declared.job.Path.{Path}
use Rattle.chain_model.specs.declared.job.Claim.{Claim}
use Rattle.chain_model.specs.declared.job.Job.{Job}
use Rattle.chain_model.specs.Paths.{IsPath}
use Rattle.stop_rules.specs.declared.goal.Goal.{Goal}
use Rattle.smc_settings.specs.declared.commands.TestWords.{TestWords}
use Rattle.run_goal.specs.Goal.{IsGoal}
use Rattle.smc_report.specs.declared.reason.Reason.{Reason}
use Rattle.smc_report.specs.declared.reason.Reason.TheVariants as reason
use Rattle.front_end.specs.declared.models.Model.{Model}
use Rattle.prism_syntax.specs.declared.models.FlatText.{FlatText}
use Rattle.front_end.specs.Models.{HasFlat, IsModelOf, FlatTells, ModelTells, is_flat, is_model}
use Rattle.front_end.specs.Properties.{IsQuestion, PropertyTells, is_question}
use Rattle.smc_top.specs.declared.asking.Asked.{Asked}
use Rattle.smc_top.specs.Asked.{IsJob, AsksCheck, RefusesQuestion, RefusesCheck, refuses_model, refuses_question, refuses_property, refuses_test}

-- a model's text tells one thing at most
abbrev pub OneModel : Type 0
OneModel = (text : List ℕ) (given : List Given) (a b : Result Model Reason) → ModelTells text given a → ModelTells text given b → a ≡ b

-- a model's text tells one thing at most by itself
abbrev pub OneFlat : Type 0
OneFlat = (text : List ℕ) (a b : Result FlatText Reason) → FlatTells text a → FlatTells text b → a ≡ b

-- a property's text tells one thing at most over a model
abbrev pub OneProperty : Type 0
OneProperty = (text : List ℕ) (model : Model) (a b : Result (Path × Claim) Reason) → PropertyTells text model a → PropertyTells text model b → a ≡ b

-- what is told is no refusal
not_refused : {X : Type 0} {x : X} {why : Reason} → ◌≡◌ {A = Result X Reason} (Ok x) (Err why) → ⊥
not_refused e = cc

-- what is told is one thing
same_told : {X : Type 0} (x y : X) → ◌≡◌ {A = Result X Reason} (Ok x) (Ok y) → x ≡ y
same_told x y e = cc

-- a refusal is for one reason
same_reason : {X : Type 0} (why other : Reason) → ◌≡◌ {A = Result X Reason} (Err why) (Err other) → why ≡ other
same_reason why other e = cc

-- a text is one model
pub models_same : OneModel → (text : List ℕ) (given : List Given) (a b : Model) → IsModelOf text given a → IsModelOf text given b → a ≡ b
models_same one text given a b p q = same_told a b (one text given (Ok a) (Ok b) (is_model p) (is_model q))

-- a text that is a model isn't refused
pub model_or_refused : OneModel → (text : List ℕ) (given : List Given) (model : Model) (why : Reason) → IsModelOf text given model → ModelTells text given (Err why) → ⊥
model_or_refused one text given model why p q = not_refused (one text given (Ok model) (Err why) (is_model p) q)

-- a model's text is refused for one reason
pub model_refusal : OneModel → (text : List ℕ) (given : List Given) (why other : Reason) → ModelTells text given (Err why) → ModelTells text given (Err other) → why ≡ other
model_refusal one text given why other p q = same_reason {X = Model} why other (one text given (Err why) (Err other) p q)

-- a text has one flat text
pub flats_same : OneFlat → (text : List ℕ) (a b : FlatText) → HasFlat text a → HasFlat text b → a ≡ b
flats_same one text a b p q = same_told a b (one text (Ok a) (Ok b) (is_flat p) (is_flat q))

-- a text that has a flat text isn't refused
pub flat_or_refused : OneFlat → (text : List ℕ) (flat : FlatText) (why : Reason) → HasFlat text flat → FlatTells text (Err why) → ⊥
flat_or_refused one text flat why p q = not_refused (one text (Ok flat) (Err why) (is_flat p) q)

-- a text is refused for one reason
pub flat_refusal : OneFlat → (text : List ℕ) (why other : Reason) → FlatTells text (Err why) → FlatTells text (Err other) → why ≡ other
flat_refusal one text why other p q = same_reason {X = FlatText} why other (one text (Err why) (Err other) p q)

-- a property is one question over a text's model
questions_same : OneModel → OneProperty → (text property : List ℕ) (given : List Given) (m n : Model) (a b : Path × Claim) → IsModelOf text given m → IsModelOf text given n
    → IsQuestion property m a → IsQuestion property n b → a ≡ b
questions_same model one text property given m n a b p q r s =
    let same = models_same model text given m n p q in
    same_told a b (one property m (Ok a) (Ok b) (is_question r) (subst (λ (v : Model). PropertyTells property v (Ok b)) (sym same) (is_question s)))

-- a property that is a question over a text's model isn't refused
question_or_refused : OneModel → OneProperty → (text property : List ℕ) (given : List Given) (m n : Model) (a : Path × Claim) (why : Reason) → IsModelOf text given m → IsModelOf text given n
    → IsQuestion property m a → PropertyTells property n (Err why) → ⊥
question_or_refused model one text property given m n a why p q r s =
    let same = models_same model text given m n p q in
    not_refused (one property m (Ok a) (Err why) (is_question r) (subst (λ (v : Model). PropertyTells property v (Err why)) (sym same) s))

-- jobs of the same chain, path formula and seed are one
job_same : (a b : Job) → a.chain ≡ b.chain → a.path ≡ b.path → a.seed ≡ b.seed → a ≡ b
job_same a b chain path seed =
    let formed : PathP (λ i. IsPath (chain i).vars (path i)) a.well_formed b.well_formed =
    is_prop→PathP (λ i. IsPath (chain i).vars (path i)) (λ i. hlevel props) a.well_formed b.well_formed in
    λ i. record { chain = chain i; path = path i; seed = seed i; well_formed = formed i }

-- goals of the same rule, limit and flip are one
goal_same : (a b : Goal) → a.rule ≡ b.rule → a.limit ≡ b.limit → a.flip ≡ b.flip → a ≡ b
goal_same a b rule limit flip =
    let some : PathP (λ i. 1 ≤ limit i) a.some b.some = is_prop→PathP (λ i. 1 ≤ limit i) (λ i. hlevel props) a.some b.some in
    let limited : PathP (λ i. limit i ≤ 2 ^ 28) a.limited b.limited =
    is_prop→PathP (λ i. limit i ≤ 2 ^ 28) (λ i. hlevel props) a.limited b.limited in
    λ i. record { rule = rule i; limit = limit i; flip = flip i; some = some i; limited = limited i }

-- a claim and a test make one goal
one_goal : (claim : Claim) (test : TestWords) (limit : ℕ) (a b : Goal) → IsGoal claim test limit a → IsGoal claim test limit b → a ≡ b
one_goal claim test limit a b p q = goal_same a b (p.rule ∙ sym q.rule) (p.limit ∙ sym q.limit) (p.flip ∙ sym q.flip)

-- a model, a path formula and a seed make one job
one_job : (model : Model) (path : Path) (seed : ℕ) (a b : Job) → IsJob model path seed a → IsJob model path seed b → a ≡ b
one_job model path seed a b p q = job_same a b (p.chain ∙ sym q.chain) (p.path ∙ sym q.path) (p.seed ∙ sym q.seed)

-- what is asked is its job, its goal and its claim
asked_same : (a b : Asked) → a.job ≡ b.job → a.goal ≡ b.goal → a.claim ≡ b.claim → a ≡ b
asked_same a b job goal claim = λ i. record { job = job i; goal = goal i; claim = claim i }

-- `check` asks one thing of a text
pub check_asks_one : OneModel → OneProperty → (text property : List ℕ) (given : List Given) (seed : ℕ) (test : TestWords) (limit : ℕ) (a b : Asked)
    → AsksCheck text property given seed test limit a → AsksCheck text property given seed test limit b → a ≡ b
check_asks_one model one text property given seed test limit a b p q =
    let models : p.model ≡ q.model = models_same model text given p.model q.model p.is_model q.is_model in
    let questions : ◌≡◌ {A = Path × Claim} (p.path, a.claim) (q.path, b.claim) =
    questions_same model one text property given p.model q.model (p.path, a.claim) (q.path, b.claim) p.is_model q.is_model p.is_question q.is_question in
    let paths : p.path ≡ q.path = ap (λ (v : Path × Claim). v.0) questions in
    let claims : a.claim ≡ b.claim = ap (λ (v : Path × Claim). v.1) questions in
    let job : IsJob p.model p.path seed b.job = subst (λ (v : Path). IsJob p.model v seed b.job) (sym paths) (subst (λ (v : Model). IsJob v q.path seed b.job) (sym models) q.job) in
    let goal : IsGoal a.claim test limit b.goal = subst (λ (v : Claim). IsGoal v test limit b.goal) (sym claims) q.goal.1 in
    asked_same a b (one_job p.model p.path seed a.job b.job p.job job) (one_goal a.claim test limit a.goal b.goal p.goal.1 goal) claims

-- a question over a text's model isn't refused
question_stands : OneModel → OneProperty → (text property : List ℕ) (given : List Given) (seed : ℕ) (test : TestWords) (limit : ℕ) (asked : Asked) (other : Model) (why : Reason)
    → AsksCheck text property given seed test limit asked → IsModelOf text given other → RefusesQuestion property other test limit why → ⊥
question_stands model one text property given seed test limit asked other why p read (refuses_property tells) =
    question_or_refused model one text property given p.model other (p.path, asked.claim) why p.is_model read p.is_question tells
question_stands model one text property given seed test limit asked other why p read (refuses_test {path} {claim} {fault} question made) =
    let questions : ◌≡◌ {A = Path × Claim} (p.path, asked.claim) (path, claim) =
    questions_same model one text property given p.model other (p.path, asked.claim) (path, claim) p.is_model read p.is_question question in
    let claims : asked.claim ≡ claim = ap (λ (v : Path × Claim). v.1) questions in
    let none = rw claims at p.goal.0 in
    cc

-- what `check` asks it doesn't refuse
pub check_asks_or_refuses : OneModel → OneProperty → (text property : List ℕ) (given : List Given) (seed : ℕ) (test : TestWords) (limit : ℕ) (asked : Asked) (why : Reason)
    → AsksCheck text property given seed test limit asked → RefusesCheck text property given test limit why → ⊥
check_asks_or_refuses model one text property given seed test limit asked why p (refuses_model tells) = model_or_refused model text given p.model why p.is_model tells
check_asks_or_refuses model one text property given seed test limit asked why p (refuses_question {model = other} read refuses) = question_stands model one text property given seed test limit asked other why p read refuses

-- a question over a model is refused for one reason
question_refuses_once : OneProperty → (property : List ℕ) (model : Model) (test : TestWords) (limit : ℕ) (why other : Reason)
    → RefusesQuestion property model test limit why → RefusesQuestion property model test limit other → why ≡ other
question_refuses_once one property model test limit why other (refuses_property p) (refuses_property q) = same_reason {X = Path × Claim} why other (one property model (Err why) (Err other) p q)
question_refuses_once one property model test limit why other (refuses_property p) (refuses_test {path} {claim} question made) =
    absurd (not_refused (one property model (Ok (path, claim)) (Err why) (is_question question) p))
question_refuses_once one property model test limit why other (refuses_test {path} {claim} question made) (refuses_property q) =
    absurd (not_refused (one property model (Ok (path, claim)) (Err other) (is_question question) q))
question_refuses_once one property model test limit why other (refuses_test {path} {claim} {fault} question made) (refuses_test {path = way} {claim = said} {fault = found} asks tells) =
    let questions : ◌≡◌ {A = Path × Claim} (path, claim) (way, said) = same_told (path, claim) (way, said) (one property model (Ok (path, claim)) (Ok (way, said)) (is_question question) (is_question asks)) in
    let claims : claim ≡ said = ap (λ (v : Path × Claim). v.1) questions in
    let first = rw claims at made in
    let same : fault ≡ found = cc in
    ap (λ v. reason.Settings v) same

-- `check` refuses for one reason
pub check_refuses_once : OneModel → OneProperty → (text property : List ℕ) (given : List Given) (test : TestWords) (limit : ℕ) (why other : Reason)
    → RefusesCheck text property given test limit why → RefusesCheck text property given test limit other → why ≡ other
check_refuses_once model one text property given test limit why other (refuses_model p) (refuses_model q) = model_refusal model text given why other p q
check_refuses_once model one text property given test limit why other (refuses_model p) (refuses_question {model = n} r q) = absurd (model_or_refused model text given n why r p)
check_refuses_once model one text property given test limit why other (refuses_question {model = m} r p) (refuses_model q) = absurd (model_or_refused model text given m other r q)
check_refuses_once model one text property given test limit why other (refuses_question {model = m} r p) (refuses_question {model = n} s q) =
    let same : n ≡ m = models_same model text given n m s r in
    question_refuses_once one property m test limit why other p (subst (λ (v : Model). RefusesQuestion property v test limit other) same q)
