use Rattle.prism_lexer.proofs.AnswerLemmas.{one_outcome}
use Rattle.prism_lexer.proofs.laws.one_outcome.Goals as goal

pub returns : goal.returns
returns c = one_outcome
