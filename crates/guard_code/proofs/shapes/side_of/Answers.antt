-- The value of a variable is within the limits of numbers.
use Rattle.std.proofs.Common.{◌≡◌, rules}
use Rattle.guard_code.specs.declared.nodes.Node.TheVariants as n
use Rattle.guard_code.proofs.JoinLemmas.{stored_variable}
use Rattle.guard_code.proofs.shapes.side_of.Goals as goal

pub returns-in-Number : goal.returns-in-Number
returns-in-Number c =
    let is : c.args.node.now ≡ n.Number c.in-Number.x = search rules in
    stored_variable c.args.node.now c.in-Number.x is
