use Rattle.prism_reading.proofs.KindLemmas.{spelled}
use Rattle.prism_reading.proofs.kinds.holds_same.Goals as goal

pub returns-in_default : goal.returns-in_default
returns-in_default c none = absurd (spelled none c.in_default.not-Name c.in_default.not-Quoted c.in_default.not-Whole c.in_default.not-Real)
