-- A sum of a variable and a whole number that is within the limits, or the fault of one that isn't.
use Rattle.std.proofs.Common.{sym, ap, ◌∙◌, w64, rules}
use Rattle.std.specs.Prelude.{ℤ, ◌+ℤ◌}
use Rattle.std.proofs.lemmas.Int.{to_z-of_z}
use Rattle.guard_code.specs.declared.nodes.Node.TheVariants as n
use Rattle.guard_code.specs.Nodes.{node_value}
use Rattle.guard_code.specs.Tests.{number_in}
use Rattle.guard_code.proofs.WholeLemmas.{as_whole_limited}
use Rattle.guard_code.proofs.NodeLemmas.{value-shifted}
use Rattle.guard_code.proofs.calculations.shift_node.Goals as goal

pub returns : goal.returns
returns c = λ labels state.
    ap (λ (by : ℤ). node_value labels state (n.Shifted c.args.shift.variable by)) (to_z-of_z w64 c.args.shift.by (search rules))
    ∙ value-shifted labels state c.args.shift.variable c.args.shift.by ∙ sym (as_whole_limited (number_in state c.args.shift.variable +ℤ c.args.shift.by))
