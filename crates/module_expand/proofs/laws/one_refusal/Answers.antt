use Rattle.module_expand.proofs.RefusalLemmas.{one_refusal}
use Rattle.module_expand.proofs.laws.one_refusal.Goals as goal

pub returns : goal.returns
returns c = one_refusal
