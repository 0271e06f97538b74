use Rattle.std.proofs.Common.{◌≡◌, take, bytes_eq}
use Rattle.std.specs.Prelude.{None}
use Rattle.indexmap.specs.IndexMap.{get}
use Rattle.prism_names.specs.First.{first_some}
use Rattle.typed_trees.specs.Scopes.{name_in}
use Rattle.typecheck.specs.Uses.{unknown_in_command}
use Rattle.typecheck.proofs.uses.unknown_in_commands.Given as goal

-- none so far has an unknown name
abbrev pub invariant-loop-command : goal.invariant-loop-command
invariant-loop-command l = first_some (unknown_in_command (name_in l.scope) (get bytes_eq l.scope.variables.now)) (take l.command-index l.commands) ≡ None
