use Rattle.std.proofs.Common.{◌≡◌, ◌++◌, map, take}
use Rattle.std.specs.List.{flat_map}
use Rattle.module_expand.specs.Duplicates.{values}
use Rattle.module_expand.specs.Groups.{stated}
use Rattle.module_expand.proofs.declarations.note_formulas.Given as goal

-- the declarations so far
abbrev pub invariant-loop-formula : goal.invariant-loop-formula
invariant-loop-formula l = flat_map stated l.all.items
    ≡ flat_map stated l.initial.all.items ++ values (map (λ v. v.name) (take l.formula-index l.formulas))
