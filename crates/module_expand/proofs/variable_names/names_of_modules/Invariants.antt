use Rattle.std.proofs.Common.{◌≡◌, map, take}
use Rattle.module_expand.specs.Renamed.{variable_names}
use Rattle.module_expand.proofs.variable_names.names_of_modules.Given as goal

-- the modules so far
abbrev pub invariant-loop-item : goal.invariant-loop-item
invariant-loop-item l = l.names.items ≡ map variable_names (take l.item-index l.modules)
