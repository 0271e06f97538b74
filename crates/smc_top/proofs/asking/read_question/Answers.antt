-- A property is refused, or else the test.
use Rattle.smc_top.proofs.AskLemmas.{stop_of_property, stop_of_test}
use Rattle.smc_top.proofs.asking.read_question.Goals as goal

pub returns-in-Err-clause-refused : goal.returns-in-Err-clause-refused
returns-in-Err-clause-refused c = stop_of_property c.args.property.now c.args.model.now c.args.test.now c.args.limit c.in-Err.stop c.in-Err.ensures.refused

pub returns-in-Err-tested-clause-refused : goal.returns-in-Err-tested-clause-refused
returns-in-Err-tested-clause-refused c =
    stop_of_test c.args.property.now c.args.model.now c.args.test.now c.args.limit c.in-Ok.question.0 c.in-Ok.question.1 c.in-Ok.ensures.question c.in-Err-tested.stop c.in-Err-tested.ensures.refused
