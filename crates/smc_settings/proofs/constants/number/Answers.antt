-- What is read of digits alone is a whole number, what is read of others a real one.
use Rattle.std.proofs.Common.{◌∙◌, sym, subst, refl, Ok}
use Rattle.std.specs.Str.Parse.{IsNumeral}
use Rattle.smc_settings.proofs.ConstantLemmas.{number_lacks_bar, number_of, whole_value, real_value, tested_numeral, numeral_tested}
use Rattle.smc_settings.proofs.constants.number.Goals as goal

pub returns-then-has_bar-clause-none : goal.returns-then-has_bar-clause-none
returns-then-has_bar-clause-none c = λ s n is. cc (c.if-has_bar.ensures ∙ number_lacks_bar c.args.text.now s n is)

pub returns-in-Ok-clause-found : goal.returns-in-Ok-clause-found
returns-in-Ok-clause-found c =
    whole_value c.args.text.now (Ok c.in-Ok.number) c.in-Ok.number c.in-Ok.ensures.value refl
    (subst (λ t. IsNumeral 10 t) c.without_minus.ensures (tested_numeral _ (sym c.if-is_numeral.ensures)))

pub returns-in-Ok-2-clause-found : goal.returns-in-Ok-2-clause-found
returns-in-Ok-2-clause-found c =
    real_value c.args.text.now (Ok c.in-Ok.number) c.in-Ok.number c.in-Ok.ensures.value c.in-Ok.ensures.other refl (sym c.if-has_bar.ensures)
    (λ numeral. cc (c.if-is_numeral.ensures ∙ numeral_tested _ (subst (λ t. IsNumeral 10 t) (sym c.without_minus.ensures) numeral)))

pub returns-in-Err-clause-none : goal.returns-in-Err-clause-none
returns-in-Err-clause-none c = λ s n is.
    let found = number_of c.args.text.now s n is in
    cc (c.in-Err.ensures.value found.negative found.written found.is ∙ found.value)
