use Rattle.std.proofs.Common.{ℕ, ◌+◌, ◌<◌, get_or}
use Rattle.chain_model.proofs.building.rise.Given as goal

-- each two neighbours so far are in order
abbrev pub invariant-loop-index : goal.invariant-loop-index
invariant-loop-index l = (k d : ℕ) → k + 1 < l.index → get_or l.modules k d < get_or l.modules (k + 1) d
