use Rattle.std.proofs.Common.{◌∷◌, [], sym, ap, ◌∙◌, length, subst}
use Rattle.prism_syntax.specs.declared.tokens.Kind.TheVariants as k
use Rattle.prism_syntax.specs.declared.expressions.Expr.TheVariants as e
use Rattle.prism_reading.specs.Reading.{Anything, Parses}
use Rattle.prism_reading.proofs.DefiniteLemmas.{found}
use Rattle.prism_reading.proofs.TerminalLemmas.{no_first}
use Rattle.prop_parser.specs.Parts.{IsLast, whole, name}
use Rattle.prism_reading.proofs.AnswerLemmas.{passed}
use Rattle.prop_parser.proofs.DefiniteLineLemmas.{last_definite, last_missing, paren_found, paren_missing, no_last}
use Rattle.prop_parser.proofs.times.last_step.Goals as goal

pub returns-in_default : goal.returns-in_default
returns-in_default c = last_missing (λ t l equal starts. no_first c.args.tokens.now c.in_default.ensures.cases equal)

pub returns-in-Whole : goal.returns-in-Whole
returns-in-Whole c =
    found _ (c.in-Some.first.now ∷ []) c.in-Some.rest.now (e.Whole c.in-Whole.value) last_definite c.in-Some.ensures.cases.0 (subst (λ t. IsLast (t ∷ []) (e.Whole c.in-Whole.value)) (sym c.in-Whole.is) whole) tt

pub returns-in_ok-copy-in-Name : goal.returns-in_ok-copy-in-Name
returns-in_ok-copy-in-Name c =
    found _ (c.in-Some.first.now ∷ []) c.in-Some.rest.now (e.Name c.in_ok-copy-in-Name.field-0) last_definite c.in-Some.ensures.cases.0
    (subst (λ t. IsLast (t ∷ []) (e.Name c.in_ok-copy-in-Name.field-0)) (sym (c.in-Name.is ∙ ap k.Name (sym c.in_ok-copy-in-Name.ensures))) name) tt

pub returns-in_err-inside-in-Open : goal.returns-in_err-inside-in-Open
returns-in_err-inside-in-Open c =
    passed _ _ _ c.in_err-inside-in-Open.field-0.0 c.from_residual-in_err-inside-in-Open.result c.from_residual-in_err-inside-in-Open.ensures.1 c.in_err-inside-in-Open.ensures
    (λ left none. paren_missing c.in-Some.first.now c.in-Some.ensures.cases.0 c.in-Open.is none)

pub returns-in_ok-new-in-Open : goal.returns-in_ok-new-in-Open
returns-in_ok-new-in-Open c =
    subst (λ x. Parses IsLast Anything c.args.tokens.now (e.Paren x) c.in_ok-inside-in-Open.rest.now (length c.in_ok-inside-in-Open.rest.now)) (sym c.in_ok-new-in-Open.ensures)
    (paren_found c.in-Some.first.now c.in-Some.ensures.cases.0 c.in-Open.is c.in_ok-inside-in-Open.ensures)

pub returns-in_default-kind : goal.returns-in_default-kind
returns-in_default-kind c = no_last c.in-Some.first.now c.in-Some.ensures.cases.0 c.in_default-kind.not-Whole c.in_default-kind.not-Name c.in_default-kind.not-Open
