use Rattle.std.proofs.Common.{take}
use Rattle.typed_trees.specs.Leaves.{numbered}
use Rattle.typed_trees.specs.Scopes.{IsTable}
use Rattle.typecheck.specs.Paths.{sorts_of_variables}
use Rattle.typecheck.proofs.tables.variable_table.Given as goal

-- the variables so far are listed
abbrev pub invariant-loop-number : goal.invariant-loop-number
invariant-loop-number l = IsTable l.table (numbered (sorts_of_variables (take l.number l.vars)))
