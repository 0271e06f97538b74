use Rattle.std.proofs.Common.{sym, ◌∙◌, bytes_eq}
use Rattle.indexmap.specs.IndexMap.{get}
use Rattle.const_eval.proofs.FirstLemmas.{told_more, told_here}
use Rattle.typed_trees.specs.Scopes.{name_in}
use Rattle.typecheck.specs.Uses.{unknown_in_command}
use Rattle.typecheck.proofs.uses.unknown_in_commands.Goals as goal

pub returns-in-Some : goal.returns-in-Some
returns-in-Some c =
    sym (told_here c.args.commands.now c.loop-command.command-index c.command-item.result c.loop-command-test.true c.command-item.is
    (unknown_in_command (name_in c.args.scope.now) (get bytes_eq c.args.scope.now.variables.now)) c.loop-command.invariant c.in-Some.name (sym c.in_ok-name.ensures ∙ c.in-Some.is))

pub loop-command-preserved : goal.loop-command-preserved
loop-command-preserved c =
    told_more c.args.commands.now c.loop-command.command-index c.command-item.result c.loop-command-test.true c.command-item.is
    (unknown_in_command (name_in c.args.scope.now) (get bytes_eq c.args.scope.now.variables.now)) c.loop-command.invariant ∙ (sym c.in_ok-name.ensures ∙ c.in-None.is)
