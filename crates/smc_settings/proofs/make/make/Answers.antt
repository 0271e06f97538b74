-- The settings of the values are those of the words.
use Rattle.std.proofs.Common.{◌≡◌, Err, map, string_bytes, ap, sym, subst}
use Rattle.std.proofs.lemmas.Result.{IfOk-weaker}
use Rattle.std.specs.Borrow.{Bor}
use Rattle.smc_settings.specs.declared.usage.Usage.TheVariants.{Words}
use Rattle.smc_settings.specs.Options.{Text, AreOptions}
use Rattle.smc_settings.proofs.SettingLemmas.{make_words, make_values}
use Rattle.smc_settings.proofs.make.make.Goals as goal

pub returns-in-Ok-clause-read : goal.returns-in-Ok-clause-read
returns-in-Ok-clause-read c =
    IfOk-weaker c.settings.result _ _ (λ settings is. make_words _ _ _ settings (ap (map (λ (n : Bor Text). n.now)) c.as_slice.ensures) c.in-Ok.ensures.read is) c.settings.ensures.read

pub returns-in-Ok-clause-refused : goal.returns-in-Ok-clause-refused
returns-in-Ok-clause-refused c = λ e settings is.
    c.settings.ensures.refused e settings (make_values _ _ _ settings (ap (map (λ (n : Bor Text). n.now)) c.as_slice.ensures) c.in-Ok.ensures.read is)

pub returns-in-Err-clause-refused : goal.returns-in-Err-clause-refused
returns-in-Err-clause-refused c = λ e settings is.
    let same : c.in-Err.fault ≡ Words = cc e in
    c.in-Err.ensures.refused (ap Err same) is.options
    (subst (λ t. AreOptions t (map string_bytes c.args.words.now) is.options) (sym (ap (map (λ (n : Bor Text). n.now)) c.as_slice.ensures)) is.are_options)
