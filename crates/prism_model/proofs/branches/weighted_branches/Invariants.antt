use Rattle.std.proofs.Common.{length}
use Rattle.prism_syntax.specs.declared.tokens.Kind.TheVariants as k
use Rattle.prism_syntax.specs.Models.{Separated, IsWeighted}
use Rattle.prism_model.specs.Parts.{EndsBranches}
use Rattle.prism_reading.proofs.EachLemmas.{Onward}
use Rattle.prism_model.proofs.branches.weighted_branches.Given as goal

abbrev pub invariant-loop-branches : goal.invariant-loop-branches
invariant-loop-branches l = Onward (Separated k.Plus IsWeighted) EndsBranches l.fn.tokens l.branches l.rest

abbrev pub decreases-loop-branches : goal.decreases-loop-branches
decreases-loop-branches l = length l.rest
