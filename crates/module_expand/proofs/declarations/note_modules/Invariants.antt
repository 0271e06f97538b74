use Rattle.std.proofs.Common.{◌≡◌, ◌++◌, take}
use Rattle.std.specs.List.{flat_map}
use Rattle.module_expand.specs.Duplicates.{module_declarations}
use Rattle.module_expand.specs.Groups.{stated}
use Rattle.module_expand.proofs.declarations.note_modules.Given as goal

-- the declarations so far
abbrev pub invariant-loop-item : goal.invariant-loop-item
invariant-loop-item l = flat_map stated l.all.items
    ≡ flat_map stated l.initial.all.items ++ flat_map (module_declarations l.modules) (take l.item-index l.modules)
