use Rattle.prism_lexer.proofs.ScanLemmas.{symbol_spelled}
use Rattle.prism_lexer.proofs.scanning.symbol_lexeme.Goals as goal

pub returns-clause-found : goal.returns-clause-found
returns-clause-found c = symbol_spelled c.args.text.now c.in_ok-kind.kind c.in_ok-length.field-0.now c.in_ok-kind.ensures.found c.in_ok-length.ensures
