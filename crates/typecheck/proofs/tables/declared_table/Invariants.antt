use Rattle.std.proofs.Common.{map, take}
use Rattle.typed_trees.specs.Leaves.{numbered}
use Rattle.typed_trees.specs.Scopes.{IsTable}
use Rattle.typecheck.specs.Declarations.{declared_sort}
use Rattle.typecheck.proofs.tables.declared_table.Given as goal

-- the variables so far are listed
abbrev pub invariant-loop-number : goal.invariant-loop-number
invariant-loop-number l = IsTable l.table (numbered (map (λ v. (v.1.now.name, declared_sort v.1.now)) (take l.number l.variables)))
