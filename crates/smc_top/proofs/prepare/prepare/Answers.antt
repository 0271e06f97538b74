-- What the words' settings are answered is their report.
use Rattle.std.proofs.Common.{Err, ap}
use Rattle.smc_settings.specs.declared.usage.Usage.{Usage}
use Rattle.smc_top.proofs.FileLemmas.{no_file, opened_by, taken_by}
use Rattle.smc_top.proofs.PrepareLemmas.{reports_answered, reports_usage}
use Rattle.smc_top.proofs.prepare.prepare.Goals as goal

pub returns-in-Ok-clause-report : goal.returns-in-Ok-clause-report
returns-in-Ok-clause-report g c =
    reports_answered _ c.in-Ok.settings (g.S.Source.files c.args.source.now) _ c.prepare_for-answer.result c.in-Ok.ensures.read c.prepare_for-answer.ensures.answer

pub returns-in-Ok-clause-untouched : goal.returns-in-Ok-clause-untouched
returns-in-Ok-clause-untouched g c = λ none. c.prepare_for-answer.ensures.untouched (no_file _ c.in-Ok.settings c.in-Ok.ensures.read none)

pub returns-in-Ok-clause-opened : goal.returns-in-Ok-clause-opened
returns-in-Ok-clause-opened g c =
    opened_by _ c.in-Ok.settings c.in-Ok.ensures.read _ _ _ (λ none. (c.prepare_for-answer.ensures.untouched none).1) c.prepare_for-answer.ensures.opened

pub returns-in-Ok-clause-taken : goal.returns-in-Ok-clause-taken
returns-in-Ok-clause-taken g c =
    taken_by _ c.in-Ok.settings c.in-Ok.ensures.read (g.S.Source.files c.args.source.now) 1048577 _ _ (λ none. (c.prepare_for-answer.ensures.untouched none).3) c.prepare_for-answer.ensures.taken

pub returns-in-Err-Words-clause-report : goal.returns-in-Err-Words-clause-report
returns-in-Err-Words-clause-report g c =
    reports_usage _ (g.S.Source.files c.args.source.now) _ (c.in-Err-Words.ensures.refused (ap (λ (v : Usage). Err v) c.in-Err-Words.field-0-is)) c.refused_for.result c.lacking_memory.result c.lacking_memory.ensures c.refused_for.ensures
