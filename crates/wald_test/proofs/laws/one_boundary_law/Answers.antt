use Rattle.wald_test.proofs.LawLemmas.{boundaries_apart}
use Rattle.wald_test.proofs.laws.one_boundary_law.Goals as goal

pub returns : goal.returns
returns c = boundaries_apart
