use Rattle.std.proofs.Common.{◌≡◌}
use Rattle.prism_expression.specs.Parts.{wrapped}
use Rattle.prism_expression.proofs.signs.with_signs.Given as goal

-- the tree has a sign for each turn
abbrev pub invariant-loop : goal.invariant-loop
invariant-loop l = l.tree ≡ wrapped l.level l.counter l.fn.operand
