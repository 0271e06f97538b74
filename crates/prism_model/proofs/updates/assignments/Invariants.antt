use Rattle.std.proofs.Common.{length}
use Rattle.prism_syntax.specs.declared.tokens.Kind.TheVariants as k
use Rattle.prism_syntax.specs.Models.{Separated, IsAssign}
use Rattle.prism_model.specs.Parts.{BeginsNot}
use Rattle.prism_reading.proofs.EachLemmas.{Onward}
use Rattle.prism_model.proofs.updates.assignments.Given as goal

abbrev pub invariant-loop-sets : goal.invariant-loop-sets
invariant-loop-sets l = Onward (Separated k.Ampersand IsAssign) (BeginsNot k.Ampersand) l.fn.tokens l.sets l.rest

abbrev pub decreases-loop-sets : goal.decreases-loop-sets
decreases-loop-sets l = length l.rest
