use Rattle.prism_lexer.proofs.AnswerLemmas.{says_ok, says_formed, says_all, says_too_many, says_bad_byte, says_too_wide}
use Rattle.prism_lexer.proofs.cut.tokens.Goals as goal

pub returns-clause-ok : goal.returns-clause-ok
returns-clause-ok c = says_ok c.args.text.now c.cut.result c.cut.ensures

pub returns-clause-formed : goal.returns-clause-formed
returns-clause-formed c = says_formed c.args.text.now c.cut.result c.cut.ensures

pub returns-clause-all : goal.returns-clause-all
returns-clause-all c = says_all c.args.text.now c.cut.result c.cut.ensures

pub returns-clause-too_many : goal.returns-clause-too_many
returns-clause-too_many c = says_too_many c.args.text.now c.cut.result c.cut.ensures

pub returns-clause-bad_byte : goal.returns-clause-bad_byte
returns-clause-bad_byte c = says_bad_byte c.args.text.now c.cut.result c.cut.ensures

pub returns-clause-too_wide : goal.returns-clause-too_wide
returns-clause-too_wide c = says_too_wide c.args.text.now c.cut.result c.cut.ensures
