use Rattle.std.proofs.Common.{◌≡◌, drop}
use Rattle.chain_model.specs.Step.{all_sets}
use Rattle.trace_meaning.specs.Assigning.{assigned_to}
use Rattle.successors.proofs.taking.assign_all.Given as goal

-- the branches that are left go on from the copy
abbrev pub invariant-loop-index : goal.invariant-loop-index
invariant-loop-index l =
    assigned_to l.chain l.state l.copy (all_sets l.chain (drop l.index l.chosen) (drop l.index l.branches))
    ≡ assigned_to l.chain l.state l.fn.copy (all_sets l.chain l.chosen l.branches)
