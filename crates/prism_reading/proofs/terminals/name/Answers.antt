use Rattle.std.proofs.Common.{◌∷◌, [], sym, ap, ◌∙◌, refl, subst}
use Rattle.prism_syntax.specs.declared.tokens.Kind.TheVariants as k
use Rattle.prism_syntax.specs.Tokens.{kinds}
use Rattle.prism_reading.specs.Sequences.{IsName, name}
use Rattle.prism_reading.proofs.ReachLemmas.{heads}
use Rattle.prism_reading.proofs.TerminalLemmas.{single_parses, single_fails, name_single, name_kind, no_first}
use Rattle.prism_reading.proofs.terminals.name.Goals as goal

pub returns-in_default : goal.returns-in_default
returns-in_default c = (single_fails name_single (λ first after x equal text. no_first c.args.tokens.now c.in_default.ensures.cases equal), refl)

pub returns-in_ok-copy-in-Name : goal.returns-in_ok-copy-in-Name
returns-in_ok-copy-in-Name c =
    single_parses name_single c.in-Some.first.now c.in-Some.ensures.cases.0
    (subst (λ v. IsName (v ∷ []) c.in_ok-copy-in-Name.field-0) (sym (c.in-Name.is ∙ ap k.Name (sym c.in_ok-copy-in-Name.ensures))) name)

pub returns-in_default-kind : goal.returns-in_default-kind
returns-in_default-kind c =
    (single_fails name_single (λ first after x equal text. c.in_default-kind.not-Name x (heads (sym (ap kinds c.in-Some.ensures.cases.0) ∙ equal) ∙ name_kind text)), refl)
