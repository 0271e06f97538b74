-- A literal says the same in every state.
use Rattle.std.proofs.Common.{sym, ap, ◌∙◌}
use Rattle.chain_model.specs.declared.values.Value.TheVariants as v
use Rattle.guard_code.specs.Wholes.{truth_of}
use Rattle.guard_code.specs.Nodes.{node_value}
use Rattle.guard_code.specs.Codes.{code_labels}
use Rattle.guard_code.proofs.NodeLemmas.{value-lit}
use Rattle.guard_code.proofs.RunLemmas.{formula_value}
use Rattle.one_trace.proofs.pairs.first_holds.Goals as goal

pub returns-in-Some : goal.returns-in-Some
returns-in-Some c = λ job is state_is.
    sym (ap truth_of (ap (node_value (code_labels c.args.code.now c.args.state.now) c.args.state.now) c.in-Some.ensures
    ∙ value-lit (code_labels c.args.code.now c.args.state.now) c.args.state.now (v.Bool c.in-Some.holds)))
    ∙ ap truth_of (formula_value job c.args.code.now c.args.state.now c.args.code.now.first job.path.first is state_is is.first)
