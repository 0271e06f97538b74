use Rattle.std.proofs.Common.{sym, ◌∙◌}
use Rattle.prism_lexer.proofs.ScanLemmas.{varied_front, varied_none, symbol_found_front, symbol_none_front}
use Rattle.prism_lexer.proofs.scanning.scan.Goals as goal

pub returns-in-Some-clause-found : goal.returns-in-Some-clause-found
returns-in-Some-clause-found c = varied_front c.args.text.now c.in-Some.front.0 c.in-Some.front.1 (sym c.varied.ensures ∙ c.in-Some.is)

pub returns-in-None-clause-found : goal.returns-in-None-clause-found
returns-in-None-clause-found c =
    symbol_found_front c.args.text.now c.symbol_lexeme.result (varied_none c.args.text.now (sym c.varied.ensures ∙ c.in-None.is)) c.symbol_lexeme.ensures.found

pub returns-in-None-clause-none : goal.returns-in-None-clause-none
returns-in-None-clause-none c =
    symbol_none_front c.args.text.now c.symbol_lexeme.result (varied_none c.args.text.now (sym c.varied.ensures ∙ c.in-None.is)) c.symbol_lexeme.ensures.none
