use Rattle.std.proofs.Common.{subst}
use Rattle.prism_syntax.specs.Tokens as token
use Rattle.prism_lexer.specs.Lexemes.{HasLexeme}
use Rattle.prism_lexer.proofs.kinds.kind_of.Goals as goal

pub returns-in-Symbol : goal.returns-in-Symbol
returns-in-Symbol c = token.fixed c.args.bytes.now c.in-Symbol.kind (subst (λ form. HasLexeme form c.args.bytes.now) c.in-Symbol.is c.requires)
