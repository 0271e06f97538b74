-- A negation that needs no part.
use Rattle.std.proofs.Common.{ap, ◌∙◌}
use Rattle.guard_code.specs.declared.nodes.Node.{Node}
use Rattle.guard_code.specs.Nodes.{node_value}
use Rattle.guard_code.specs.Means.{negation}
use Rattle.guard_code.proofs.signs.negation_node.Goals as goal

pub returns-in-Some : goal.returns-in-Some
returns-in-Some c = λ labels state small. c.in-Some.ensures labels state small ∙ ap (λ (x : Node). negation (node_value labels state x)) c.get.ensures
