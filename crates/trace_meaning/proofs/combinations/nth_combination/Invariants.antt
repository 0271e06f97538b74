use Rattle.std.specs.Prelude.{slice_get}
use Rattle.chain_model.specs.Choices.{combinations}
use Rattle.trace_meaning.proofs.CombinationLemmas.{Chosen}
use Rattle.trace_meaning.proofs.combinations.nth_combination.Given as goal

-- what is chosen so far stands before a list of the others
abbrev pub invariant-loop-place : goal.invariant-loop-place
invariant-loop-place l = Chosen l.lists l.place l.left l.chosen (slice_get (combinations l.lists) l.fn.number)
