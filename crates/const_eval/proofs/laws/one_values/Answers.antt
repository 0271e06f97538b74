use Rattle.const_eval.proofs.OneValueLemmas.{one_values}
use Rattle.const_eval.proofs.laws.one_values.Goals as goal

pub returns : goal.returns
returns c = one_values
