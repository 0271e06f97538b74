use Rattle.std.proofs.Common.{map, take}
use Rattle.typecheck.specs.Owners.{AreOwners}
use Rattle.typecheck.proofs.owners.owner_table.Given as goal

-- the owners of the variables so far are listed
abbrev pub invariant-loop-variable : goal.invariant-loop-variable
invariant-loop-variable l = AreOwners l.table (map (λ v. (v.1.now.name, v.0)) (take l.variable-index l.variables))
