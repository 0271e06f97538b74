use Rattle.std.proofs.Common.{length}
use Rattle.prism_syntax.specs.declared.tokens.Kind.TheVariants as k
use Rattle.prism_syntax.specs.Models.{Separated, IsPair}
use Rattle.prism_model.specs.Parts.{BeginsNot}
use Rattle.prism_reading.proofs.EachLemmas.{Onward}
use Rattle.prism_model.proofs.renamings.pairs.Given as goal

abbrev pub invariant-loop-pairs : goal.invariant-loop-pairs
invariant-loop-pairs l = Onward (Separated k.Comma IsPair) (BeginsNot k.Comma) l.fn.tokens l.pairs l.rest

abbrev pub decreases-loop-pairs : goal.decreases-loop-pairs
decreases-loop-pairs l = length l.rest
