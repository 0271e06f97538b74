use Rattle.const_eval.proofs.RefusalLemmas.{one_refusal}
use Rattle.const_eval.proofs.laws.one_refusal.Goals as goal

pub returns : goal.returns
returns c = one_refusal
