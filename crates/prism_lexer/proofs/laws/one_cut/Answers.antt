use Rattle.prism_lexer.proofs.AnswerLemmas.{one_list}
use Rattle.prism_lexer.proofs.laws.one_cut.Goals as goal

pub returns : goal.returns
returns c = one_list
