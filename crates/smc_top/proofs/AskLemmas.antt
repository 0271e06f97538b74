-- What is told by the stages of `check`.
use Rattle.std.proofs.Common.{◌≡◌, ℕ, List, Ok, Err, sym, subst, ap}
use Rattle.chain_model.specs.declared.constants.Given.{Given}
use Rattle.chain_model.specs.declared.job.Path.{Path}
use Rattle.chain_model.specs.declared.job.Claim.{Claim}
use Rattle.smc_settings.specs.declared.commands.Settings.{Settings}
use Rattle.smc_settings.specs.declared.commands.Settings.TheVariants as command
use Rattle.smc_settings.specs.declared.commands.TestWords.{TestWords}
use Rattle.run_goal.specs.Goal.{IsMade}
use Rattle.smc_report.specs.declared.reason.Reason.{Reason}
use Rattle.smc_report.specs.declared.reason.Reason.TheVariants as reason
use Rattle.front_end.specs.declared.models.Model.{Model}
use Rattle.front_end.specs.declared.stop.Stop.{Stop}
use Rattle.front_end.specs.declared.stop.Stop.TheVariants.{Refused, OutOfMemory}
use Rattle.front_end.specs.Stops.{StopTells, IsReasonOf}
use Rattle.front_end.specs.Models.{IsModelOf, ModelTells}
use Rattle.front_end.specs.Properties.{IsQuestion, PropertyTells}
use Rattle.stop_rules.specs.declared.goal.Goal.{Goal}
use Rattle.smc_top.specs.declared.asking.Asked.{Asked}
use Rattle.smc_top.specs.Asked.{IsJob, AsksCheck, Refuses, RefusesQuestion, RefusesCheck, refuses_property, refuses_test, refuses_model, refuses_question}

-- what one relation of reasons gives another, it gives for what a stop tells
pub stop_map : (P Q : Reason → Type 0) → ((why : Reason) → P why → Q why) → (stop : Stop) → StopTells P stop → StopTells Q stop
stop_map P Q give (Refused refusal) told = give refusal told
stop_map P Q give (OutOfMemory error) told = tt

-- a refused property refuses the question
pub stop_of_property : (property : List ℕ) (model : Model) (test : TestWords) (limit : ℕ) (stop : Stop) → StopTells (λ why. PropertyTells property model (Err why)) stop
    → StopTells (RefusesQuestion property model test limit) stop
stop_of_property property model test limit stop told =
    stop_map (λ (why : Reason). PropertyTells property model (Err why)) (RefusesQuestion property model test limit) (λ why refuses. refuses_property refuses) stop told

-- a refused test refuses the question
pub stop_of_test : (property : List ℕ) (model : Model) (test : TestWords) (limit : ℕ) (path : Path) (claim : Claim) → IsQuestion property model (path, claim)
    → (stop : Stop) → StopTells (IsReasonOf reason.Settings (λ fault. IsMade claim test limit (Err fault))) stop → StopTells (RefusesQuestion property model test limit) stop
stop_of_test property model test limit path claim question stop told =
    stop_map (IsReasonOf reason.Settings (λ fault. IsMade claim test limit (Err fault))) (RefusesQuestion property model test limit)
    (λ why is. subst (RefusesQuestion property model test limit) (sym is.1) (refuses_test question is.2)) stop told

-- a refused model refuses what `check` asks
pub stop_of_model : (text property : List ℕ) (given : List Given) (test : TestWords) (limit : ℕ) (stop : Stop) → StopTells (λ why. ModelTells text given (Err why)) stop
    → StopTells (RefusesCheck text property given test limit) stop
stop_of_model text property given test limit stop told =
    stop_map (λ (why : Reason). ModelTells text given (Err why)) (RefusesCheck text property given test limit) (λ why refuses. refuses_model refuses) stop told

-- so does a refused question over the text's model
pub stop_of_question : (text property : List ℕ) (given : List Given) (test : TestWords) (limit : ℕ) (model : Model) → IsModelOf text given model
    → (stop : Stop) → StopTells (RefusesQuestion property model test limit) stop → StopTells (RefusesCheck text property given test limit) stop
stop_of_question text property given test limit model read stop told =
    stop_map (RefusesQuestion property model test limit) (RefusesCheck text property given test limit) (λ why refuses. refuses_question read refuses) stop told

-- what a question over a text's model asks
pub asks_of : (text property : List ℕ) (given : List Given) (seed : ℕ) (test : TestWords) (limit : ℕ) (model : Model) (path : Path) (claim : Claim) (goal : Goal) (asked : Asked) → IsModelOf text given model
    → IsQuestion property model (path, claim) → IsMade claim test limit (Ok goal) → IsJob model path seed asked.job → asked.goal ≡ goal → asked.claim ≡ claim → AsksCheck text property given seed test limit asked
asks_of text property given seed test limit model path claim goal asked read question made job goals claims = record {
  model = model;
  is_model = read;
  path = path;
  is_question = subst (λ (v : Claim). IsQuestion property model (path, v)) (sym claims) question;
  job = job;
  goal = subst (λ (v : Claim). IsMade v test limit (Ok asked.goal)) (sym claims) (subst (λ (v : Goal). IsMade claim test limit (Ok v)) (sym goals) made);
}
