use Rattle.std.proofs.Common.{◌≡◌, ◌++◌, map, take}
use Rattle.std.specs.List.{flat_map}
use Rattle.module_expand.specs.Duplicates.{values}
use Rattle.module_expand.specs.Groups.{stated}
use Rattle.module_expand.proofs.declarations.note_variables.Given as goal

-- the declarations so far
abbrev pub invariant-loop-variable : goal.invariant-loop-variable
invariant-loop-variable l = flat_map stated l.all.items
    ≡ flat_map stated l.initial.all.items ++ values (map (λ v. v.name) (take l.variable-index l.variables))
