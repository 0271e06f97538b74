use Rattle.std.proofs.Common.{length}
use Rattle.prism_syntax.specs.Models.{Each, IsVariable}
use Rattle.prism_model.specs.Parts.{BeginsNoName}
use Rattle.prism_reading.proofs.EachLemmas.{Onward}
use Rattle.prism_model.proofs.variables.variables.Given as goal

abbrev pub invariant-loop-alloc : goal.invariant-loop-alloc
invariant-loop-alloc l = Onward (Each IsVariable) BeginsNoName l.fn.tokens l.variables l.rest

abbrev pub decreases-loop-alloc : goal.decreases-loop-alloc
decreases-loop-alloc l = length l.rest
