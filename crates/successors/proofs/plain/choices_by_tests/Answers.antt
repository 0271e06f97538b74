-- What is told of the commands is told of the choices of the state.
use Rattle.std.proofs.Common.{arith}
use Rattle.guard_code.proofs.RunLemmas.{small_state}
use Rattle.successors.specs.Plain.{holds_at}
use Rattle.successors.proofs.PlainLemmas.{known_by, told_same, choices_told}
use Rattle.successors.proofs.plain.choices_by_tests.Goals as goal

pub returns : goal.returns
returns c =
    let plan = c.args.plan.now in
    let known = known_by c.args.chain.now c.args.state.now plan c.requires.plan (c.requires.plan.plain c.requires.plain)
    (small_state c.args.chain.now c.args.state.now c.requires.state) in
    let told = choices_told c.args.chain.now c.args.state.now plan (holds_at plan.guards c.args.state.now) c.choices_of_lists.result c.choices_of_lists.new.chosen _ known
    (told_same plan.guards c.as_slice.result.now c.args.state.now plan.partition.singles c.as_slice-2.result.now plan.partition.actions c.as_slice-3.result.now
    c.choices_of_lists.result c.choices_of_lists.new.chosen c.as_slice.ensures c.as_slice-2.ensures c.as_slice-3.ensures c.choices_of_lists.ensures.told)
    c.choices_of_lists.ensures.within (omega (arith, c.choices_of_lists.auto.chosen)) in
    record { choices = told.0; some = told.1; within = c.choices_of_lists.ensures.within; few = told.2 }
