-- A conditional of plain parts.
use Rattle.std.proofs.Common.{ap, ◌∙◌}
use Rattle.guard_code.specs.declared.nodes.Node.{Node}
use Rattle.guard_code.specs.Wholes.{truth_of, choice_value}
use Rattle.guard_code.specs.Nodes.{node_value}
use Rattle.guard_code.proofs.compiling.conditional.Goals as goal

pub returns-in-Some : goal.returns-in-Some
returns-in-Some c = λ labels state small.
    c.in-Some.ensures labels state small
    ∙ ap (λ (x : Node). choice_value (truth_of (node_value labels state x)) (node_value labels state c.get-2.result.now) (node_value labels state c.get-3.result.now)) c.get.ensures
    ∙ ap (λ (x : Node). choice_value (truth_of (node_value labels state c.args.condition)) (node_value labels state x) (node_value labels state c.get-3.result.now)) c.get-2.ensures
    ∙ ap (λ (x : Node). choice_value (truth_of (node_value labels state c.args.condition)) (node_value labels state c.args.first) (node_value labels state x)) c.get-3.ensures
