use Rattle.const_eval.proofs.KeepingLemmas.{keeps_sorts}
use Rattle.const_eval.proofs.laws.value_of_sort.Goals as goal

pub returns : goal.returns
returns c = keeps_sorts
