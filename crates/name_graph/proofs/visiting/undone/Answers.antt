use Rattle.std.proofs.Common.{All, subst}
use Rattle.std.proofs.lemmas.List.{take_all}
use Rattle.std.proofs.lemmas.List.Elements.{All-more}
use Rattle.name_graph.specs.PartOrder.{IsMarked}
use Rattle.name_graph.proofs.visiting.undone.Goals as goal

pub loop-place-preserved : goal.loop-place-preserved
loop-place-preserved c = All-more (λ j. IsMarked c.args.done.now j) c.args.uses.now c.loop-place.place-index 0 c.loop-place-test.true c.loop-place.invariant c.if-not-done-place.false

pub returns : goal.returns
returns c = subst (All (λ j. IsMarked c.args.done.now j)) (take_all c.loop-place.place-index c.args.uses.now c.loop-place-test.false) c.loop-place.invariant
