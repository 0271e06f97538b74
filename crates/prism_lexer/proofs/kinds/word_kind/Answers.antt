use Rattle.std.proofs.Common.{subst, Some, refl, sym}
use Rattle.prism_syntax.specs.declared.tokens.Kind.TheVariants as k
use Rattle.prism_syntax.specs.Tokens.{IsToken}
use Rattle.prism_syntax.specs.Tokens as token
use Rattle.prism_lexer.proofs.FormLemmas.{free_word}
use Rattle.prism_lexer.proofs.kinds.word_kind.Goals as goal

pub returns-in-Some : goal.returns-in-Some
returns-in-Some c = token.fixed c.args.bytes.now c.in-Some.kind c.in-Some.ensures.found.spelling

pub returns-in_ok-from_bytes-in-None : goal.returns-in_ok-from_bytes-in-None
returns-in_ok-from_bytes-in-None c =
    subst (λ t. IsToken c.args.bytes.now (Some (k.Name t))) (sym c.in_ok-from_bytes-in-None.ensures)
    (token.name c.args.bytes.now c.requires (free_word c.args.bytes.now c.requires (c.in-None.ensures.none.0 refl)))
