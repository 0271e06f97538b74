use Rattle.std.proofs.Common.{ℕ, ◌+◌, ◌<◌, ◌≤◌, get_or}
use Rattle.chain_model.specs.declared.chain.Act.{Act}
use Rattle.chain_model.proofs.building.go_by_module.Given as goal

-- each two neighbours so far are in order
abbrev pub invariant-loop-index : goal.invariant-loop-index
invariant-loop-index l = (k : ℕ) (d : Act) → k + 1 < l.index → (get_or l.commands k d).module ≤ (get_or l.commands (k + 1) d).module
