use Rattle.std.proofs.Common.{[], ap, sym, ◌∙◌, take}
use Rattle.std.specs.Prelude.{filter_map}
use Rattle.typecheck.specs.Declarations.{first_appearances, with_name}
use Rattle.typecheck.proofs.ActionLemmas.{names-more, action-more}
use Rattle.typecheck.proofs.actions.action_names.Goals as goal

pub loop-command-preserved : goal.loop-command-preserved
loop-command-preserved c =
    c.in_ok-note_action.ensures ∙ (ap (λ names. with_name names c.command-item.result.1.now.action) c.loop-command.invariant
    ∙ (names-more (filter_map (λ d. d.1.now.action) (take c.loop-command.command-index c.args.commands.now)) c.command-item.result.1.now.action
    ∙ ap (first_appearances []) (sym (action-more (λ d. d.1.now.action) c.args.commands.now c.loop-command.command-index c.command-item.result c.loop-command-test.true c.command-item.is))))
