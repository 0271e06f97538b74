-- The one choice is that of the command that alone is enabled, where no action is possible.
use Rattle.std.proofs.Common.{sym, ◌∙◌}
use Rattle.successors.specs.Plain.{holds_at}
use Rattle.successors.proofs.PlainLemmas.{of_single}
use Rattle.successors.proofs.plain.choices_of_lists.Goals as goal

pub returns-else-some_possible-clause-told : goal.returns-else-some_possible-clause-told
returns-else-some_possible-clause-told c =
    of_single (holds_at c.args.guards.now c.args.state.now) c.args.singles.now c.args.actions.now c.in-One.command c.args.chosen.now c.in-One.ensures
    (sym c.some_possible.ensures ∙ c.if-some_possible.false) c.requires.some
