use Rattle.std.proofs.Common.{take, ◌++◌}
use Rattle.typed_trees.specs.Scopes.{IsTable}
use Rattle.typecheck.specs.Paths.{built_in}
use Rattle.typecheck.proofs.tables.label_table.Given as goal

-- the built-in labels and the labels so far are listed
abbrev pub invariant-loop-label : goal.invariant-loop-label
invariant-loop-label l = IsTable l.table (built_in ++ take l.label-index l.labels)
