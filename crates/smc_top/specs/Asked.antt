-- What the settings of a command ask of a model's text, and the first reason to refuse it.
use Rattle.std.specs.Prelude.{◌≡◌, ⊤, ℕ, List, [], Option, Some, None, Ok, Err}
use Rattle.chain_model.specs.declared.constants.Given.{Given}
use Rattle.chain_model.specs.declared.job.Path.{Path}
use Rattle.chain_model.specs.declared.job.Claim.{Claim}
use Rattle.chain_model.specs.declared.job.Job.{Job}
use Rattle.smc_settings.specs.declared.commands.TestWords.{TestWords}
use Rattle.smc_settings.specs.declared.commands.Settings.{Settings}
use Rattle.smc_settings.specs.declared.commands.Settings.TheVariants as command
use Rattle.run_goal.specs.declared.fault.SettingsFault.{SettingsFault}
use Rattle.run_goal.specs.Goal.{IsMade}
use Rattle.smc_report.specs.declared.reason.Reason.{Reason}
use Rattle.smc_report.specs.declared.reason.Reason.TheVariants as reason
use Rattle.front_end.specs.declared.models.Model.{Model}
use Rattle.front_end.specs.Models.{IsModelOf, FlatTells, ModelTells}
use Rattle.front_end.specs.Properties.{IsQuestion, PropertyTells}
use Rattle.model_gen.specs.Ring.{ring}
use Rattle.smc_top.specs.declared.asking.Asked.{Asked}
use Rattle.smc_top.specs.RingCheck.{ring_property, ring_test, most_ring_traces}

-- the name of the model's file, which `make` and `help` have not
abbrev pub file_of : Settings → Option (List ℕ)
file_of (command.Check model property given seed test limit workers) = Some model
file_of (command.Trace model given seed index steps) = Some model
file_of (command.Expand model) = Some model
file_of (command.Make stations seed workers) = None
file_of command.Help = None

-- the settings are those of `check`
abbrev pub IsCheck : Settings → Type 0
IsCheck (command.Check model property given seed test limit workers) = ⊤
IsCheck (command.Trace model given seed index steps) = ⊥
IsCheck (command.Expand model) = ⊥
IsCheck (command.Make stations seed workers) = ⊥
IsCheck command.Help = ⊥

-- the settings are those of `trace`
abbrev pub IsTrace : Settings → Type 0
IsTrace (command.Check model property given seed test limit workers) = ⊥
IsTrace (command.Trace model given seed index steps) = ⊤
IsTrace (command.Expand model) = ⊥
IsTrace (command.Make stations seed workers) = ⊥
IsTrace command.Help = ⊥

-- a job is that of a model's chain, a path formula over it, and the seed of the draws
pub record IsJob (model : Model) (formula : Path) (start : ℕ) (job : Job) : Type 0 where
  pub chain : job.chain ≡ model.chain
  pub path : job.path ≡ formula
  pub seed : job.seed ≡ start

-- the words of `check` ask this of a text: the job of its model and of the property's path formula, and the goal that the
-- property's claim and the test make
pub record AsksCheck (text property : List ℕ) (given : List Given) (seed : ℕ) (test : TestWords) (limit : ℕ)
    (asked : Asked) : Type 0 where
  pub model : Model
  pub is_model : IsModelOf text given model
  pub path : Path
  pub is_question : IsQuestion property model (path, asked.claim)
  pub job : IsJob model path seed asked.job
  pub goal : IsMade asked.claim test limit (Ok asked.goal)

-- the first reason to refuse a question over a model: the property is refused, or else the settings of the test
pub data RefusesQuestion (property : List ℕ) (model : Model) (test : TestWords) (limit : ℕ) : Reason → Type 0 where
  refuses_property : {why : Reason} → PropertyTells property model (Err why) → RefusesQuestion property model test limit why
  refuses_test : {path : Path} {claim : Claim} {fault : SettingsFault} → IsQuestion property model (path, claim)
      → IsMade claim test limit (Err fault) → RefusesQuestion property model test limit (reason.Settings fault)

-- the first reason to refuse what `check` asks: the model is refused, or else the question over it
pub data RefusesCheck (text property : List ℕ) (given : List Given) (test : TestWords) (limit : ℕ) : Reason → Type 0 where
  refuses_model : {why : Reason} → ModelTells text given (Err why) → RefusesCheck text property given test limit why
  refuses_question : {model : Model} {why : Reason} → IsModelOf text given model → RefusesQuestion property model test limit why
      → RefusesCheck text property given test limit why

-- settings ask this of a model's text; `check` alone asks for a run over a text that is read
abbrev pub Asks : Settings → List ℕ → Asked → Type 0
Asks (command.Check model property given seed test limit workers) text asked = AsksCheck text property given seed test limit asked
Asks (command.Trace model given seed index steps) text asked = ⊥
Asks (command.Expand model) text asked = ⊥
Asks (command.Make stations seed workers) text asked = ⊥
Asks command.Help text asked = ⊥

-- why a command refuses a model's text; `make` reads none, and would refuse what `check` refuses of its ring's text; `help`
-- refuses nothing
abbrev pub Refuses : Settings → List ℕ → Reason → Type 0
Refuses (command.Check model property given seed test limit workers) text why = RefusesCheck text property given test limit why
Refuses (command.Trace model given seed index steps) text why = ModelTells text given (Err why)
Refuses (command.Expand model) text why = FlatTells text (Err why)
Refuses (command.Make stations seed workers) text why =
    RefusesCheck (ring stations) (ring_property stations) [] ring_test most_ring_traces why
Refuses command.Help text why = ⊥
