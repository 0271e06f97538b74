use Rattle.std.proofs.Common.{◌≡◌, map, take}
use Rattle.typecheck.specs.Declarations.{module_name}
use Rattle.typecheck.proofs.parts.module_names.Given as goal

-- the names so far
abbrev pub invariant-loop-item : goal.invariant-loop-item
invariant-loop-item l = l.names ≡ map module_name (take l.item-index l.modules)
