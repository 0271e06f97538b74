use Rattle.std.proofs.Common.{length}
use Rattle.prism_syntax.specs.declared.tokens.Kind.TheVariants as k
use Rattle.prism_syntax.specs.Models.{Each, IsCommand}
use Rattle.prism_model.specs.Parts.{BeginsNot}
use Rattle.prism_reading.proofs.EachLemmas.{Onward}
use Rattle.prism_model.proofs.commands.commands.Given as goal

abbrev pub invariant-loop-alloc : goal.invariant-loop-alloc
invariant-loop-alloc l = Onward (Each IsCommand) (BeginsNot k.OpenBracket) l.fn.tokens l.commands l.rest

abbrev pub decreases-loop-alloc : goal.decreases-loop-alloc
decreases-loop-alloc l = length l.rest
