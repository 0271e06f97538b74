-- A text is refused, or else the question over its model.
use Rattle.std.proofs.Common.{◌≡◌, sym, subst, ap}
use Rattle.smc_settings.specs.declared.commands.Settings.{Settings}
use Rattle.front_end.specs.Stops.{StopTells}
use Rattle.smc_top.specs.Asked.{Asks, Refuses}
use Rattle.smc_top.proofs.AskLemmas.{stop_of_model, stop_of_question, asks_of}
use Rattle.smc_top.proofs.asking.ask.Goals as goal

pub returns-in-Err-clause-refused : goal.returns-in-Err-clause-refused
returns-in-Err-clause-refused c =
    let told = rw c.as_slice.ensures at c.in-Err.ensures.refused in
    subst (λ (s : Settings). StopTells (Refuses s c.args.text.now) c.in-Err.stop) (sym c.in-Check.is)
    (stop_of_model c.args.text.now c.in-Check.property c.in-Check.given c.in-Check.test c.in-Check.limit c.in-Err.stop told)

pub returns-in-Err-read_question-clause-refused : goal.returns-in-Err-read_question-clause-refused
returns-in-Err-read_question-clause-refused c =
    let read = rw c.as_slice.ensures at c.in-Ok.ensures.model in
    let told = rw c.as_bytes.ensures at c.in-Err-read_question.ensures.refused in
    subst (λ (s : Settings). StopTells (Refuses s c.args.text.now) c.in-Err-read_question.stop) (sym c.in-Check.is)
    (stop_of_question c.args.text.now c.in-Check.property c.in-Check.given c.in-Check.test c.in-Check.limit c.in-Ok.model read c.in-Err-read_question.stop told)

pub returns-in-Ok-read_question-clause-asked : goal.returns-in-Ok-read_question-clause-asked
returns-in-Ok-read_question-clause-asked c =
    let read = rw c.as_slice.ensures at c.in-Ok.ensures.model in
    let question = rw c.as_bytes.ensures at c.in-Ok-read_question.ensures.question in
    let asked = c.in-Ok-read_question.question in
    subst (λ (s : Settings). Asks s c.args.text.now c.with_seed.result) (sym c.in-Check.is)
    (asks_of c.args.text.now c.in-Check.property c.in-Check.given c.in-Check.seed c.in-Check.test c.in-Check.limit c.in-Ok.model asked.path asked.claim asked.goal c.with_seed.result read question
    c.in-Ok-read_question.ensures.made c.with_seed.ensures.job c.with_seed.ensures.goal c.with_seed.ensures.claim)
