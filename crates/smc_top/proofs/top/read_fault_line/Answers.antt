use Rattle.std.proofs.Common.{refl}
use Rattle.smc_top.proofs.LineLemmas.{four_hundred}
use Rattle.smc_top.proofs.top.read_fault_line.Goals as goal

pub returns : goal.returns
returns c = rw four_hundred refl
