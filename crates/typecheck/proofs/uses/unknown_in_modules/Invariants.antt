use Rattle.std.proofs.Common.{◌≡◌, take, bytes_eq}
use Rattle.std.specs.Prelude.{None}
use Rattle.indexmap.specs.IndexMap.{get}
use Rattle.prism_names.specs.First.{first_some}
use Rattle.typed_trees.specs.Scopes.{name_in}
use Rattle.typecheck.specs.Uses.{unknown_in_module}
use Rattle.typecheck.proofs.uses.unknown_in_modules.Given as goal

-- none so far has an unknown name
abbrev pub invariant-loop-item : goal.invariant-loop-item
invariant-loop-item l = first_some (unknown_in_module (name_in l.constants) (name_in l.scope) (get bytes_eq l.scope.variables.now)) (take l.item-index l.modules) ≡ None
