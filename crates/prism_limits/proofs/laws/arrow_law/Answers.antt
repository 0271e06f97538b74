use Rattle.prism_limits.proofs.TwoArrowLemmas.{long_later}
use Rattle.prism_limits.proofs.LaterArrowLemmas.{later_long}
use Rattle.prism_limits.proofs.laws.arrow_law.Goals as goal

pub returns : goal.returns
returns c = λ labels tokens tree text. (λ long. long_later text long, λ later. later_long text later.1)
