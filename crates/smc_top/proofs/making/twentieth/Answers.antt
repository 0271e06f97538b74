-- One twentieth is a fraction.
use Rattle.std.proofs.Common.{◌∙◌}
use Rattle.smc_top.proofs.RingLemmas.{twentieth_found}
use Rattle.smc_top.proofs.making.twentieth.Goals as goal

pub unreachable-requires : goal.unreachable-requires
unreachable-requires c = let same = c.in-Err.ensures.value ∙ twentieth_found in cc same

pub returns : goal.returns
returns c = let same = c.in-Ok.ensures.value ∙ twentieth_found in cc same
