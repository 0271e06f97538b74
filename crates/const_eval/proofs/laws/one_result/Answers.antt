use Rattle.const_eval.proofs.ResultLemmas.{one_result}
use Rattle.const_eval.proofs.laws.one_result.Goals as goal

pub returns : goal.returns
returns c = one_result
