use Rattle.std.proofs.Common.{◌≡◌, ◌++◌, map, take}
use Rattle.std.specs.List.{flat_map}
use Rattle.module_expand.specs.Duplicates.{values}
use Rattle.module_expand.specs.Groups.{stated}
use Rattle.module_expand.proofs.declarations.note_consts.Given as goal

-- the declarations so far
abbrev pub invariant-loop-constant : goal.invariant-loop-constant
invariant-loop-constant l = flat_map stated l.all.items
    ≡ flat_map stated l.initial.all.items ++ values (map (λ v. v.name) (take l.constant-index l.consts))
