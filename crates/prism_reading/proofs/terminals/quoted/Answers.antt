use Rattle.std.proofs.Common.{◌∷◌, [], sym, ap, ◌∙◌, refl, subst}
use Rattle.prism_syntax.specs.declared.tokens.Kind.TheVariants as k
use Rattle.prism_syntax.specs.Tokens.{kinds}
use Rattle.prism_reading.specs.Sequences.{IsQuoted, quoted}
use Rattle.prism_reading.proofs.ReachLemmas.{heads}
use Rattle.prism_reading.proofs.TerminalLemmas.{single_parses, single_fails, quoted_single, quoted_kind, no_first}
use Rattle.prism_reading.proofs.terminals.quoted.Goals as goal

pub returns-in_default : goal.returns-in_default
returns-in_default c = (single_fails quoted_single (λ first after x equal text. no_first c.args.tokens.now c.in_default.ensures.cases equal), refl)

pub returns-in_ok-copy-in-Quoted : goal.returns-in_ok-copy-in-Quoted
returns-in_ok-copy-in-Quoted c =
    single_parses quoted_single c.in-Some.first.now c.in-Some.ensures.cases.0
    (subst (λ v. IsQuoted (v ∷ []) c.in_ok-copy-in-Quoted.field-0) (sym (c.in-Quoted.is ∙ ap k.Quoted (sym c.in_ok-copy-in-Quoted.ensures))) quoted)

pub returns-in_default-kind : goal.returns-in_default-kind
returns-in_default-kind c =
    (single_fails quoted_single (λ first after x equal text. c.in_default-kind.not-Quoted x (heads (sym (ap kinds c.in-Some.ensures.cases.0) ∙ equal) ∙ quoted_kind text)), refl)
