use Rattle.std.proofs.Common.{◌≡◌, ℕ, drop, map, bytes_eq}
use Rattle.prism_syntax.specs.declared.commands.Command.{Command}
use Rattle.indexmap.specs.IndexMap.{get}
use Rattle.typed_trees.specs.Scopes.{tree_in}
use Rattle.typecheck.specs.Parts.{all_made, made_command}
use Rattle.typecheck.proofs.MakingLemmas.{made_with}
use Rattle.typecheck.proofs.commands.made_commands.Given as goal

-- what is made so far, with what is left to make, is what is made of all
abbrev pub invariant-loop-command : goal.invariant-loop-command
invariant-loop-command l = made_with l.acts (map (made_command (tree_in l.scope) (get bytes_eq l.scope.variables.now) l.names.keys) (map {B = ℕ × Command} (λ c. (c.0, c.1.now)) (drop l.command-index l.commands))) ≡ all_made (map (made_command (tree_in l.scope) (get bytes_eq l.scope.variables.now) l.names.keys) (map {B = ℕ × Command} (λ c. (c.0, c.1.now)) l.commands))
