use Rattle.typecheck.proofs.OneChainLemmas.{chain-once}
use Rattle.typecheck.proofs.laws.one_chain.Goals as goal

pub returns : goal.returns
returns c = chain-once
