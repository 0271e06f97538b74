use Rattle.std.proofs.Common.{sym, ◌∙◌, bytes_eq}
use Rattle.typecheck.proofs.MappedLemmas.{mapped_more, mapped_here}
use Rattle.indexmap.specs.IndexMap.{get}
use Rattle.typecheck.specs.Writes.{global_write}
use Rattle.typecheck.proofs.writes.first_global.Goals as goal

pub returns-in-Some : goal.returns-in-Some
returns-in-Some c =
    sym (mapped_here (λ c. c.1.now) c.args.commands.now c.loop-command.command-index c.command-item.result c.loop-command-test.true c.command-item.is
    (global_write (get bytes_eq c.args.owners.now)) c.loop-command.invariant c.in-Some.name (sym c.in_ok-name.ensures ∙ c.in-Some.is))

pub loop-command-preserved : goal.loop-command-preserved
loop-command-preserved c =
    mapped_more (λ c. c.1.now) c.args.commands.now c.loop-command.command-index c.command-item.result c.loop-command-test.true c.command-item.is
    (global_write (get bytes_eq c.args.owners.now)) c.loop-command.invariant ∙ (sym c.in_ok-name.ensures ∙ c.in-None.is)
