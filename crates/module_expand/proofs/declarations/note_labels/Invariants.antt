use Rattle.std.proofs.Common.{◌≡◌, ◌++◌, map, take}
use Rattle.std.specs.List.{flat_map}
use Rattle.module_expand.specs.Duplicates.{label_declarations}
use Rattle.module_expand.specs.Groups.{stated}
use Rattle.module_expand.proofs.declarations.note_labels.Given as goal

-- the declarations so far
abbrev pub invariant-loop-label : goal.invariant-loop-label
invariant-loop-label l = flat_map stated l.all.items
    ≡ flat_map stated l.initial.all.items ++ label_declarations (map (λ v. v.name) (take l.label-index l.labels))
