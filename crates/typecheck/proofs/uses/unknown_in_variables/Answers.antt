use Rattle.std.proofs.Common.{sym, ◌∙◌}
use Rattle.const_eval.proofs.FirstLemmas.{told_more, told_here}
use Rattle.typed_trees.specs.Scopes.{name_in}
use Rattle.typecheck.specs.Uses.{unknown_in_variable}
use Rattle.typecheck.proofs.uses.unknown_in_variables.Goals as goal

pub returns-in-Some : goal.returns-in-Some
returns-in-Some c =
    sym (told_here c.args.variables.now c.loop-variable.variable-index c.variable-item.result c.loop-variable-test.true c.variable-item.is
    (unknown_in_variable (name_in c.args.constants.now)) c.loop-variable.invariant c.in-Some.name (sym c.in_ok-name.ensures ∙ c.in-Some.is))

pub loop-variable-preserved : goal.loop-variable-preserved
loop-variable-preserved c =
    told_more c.args.variables.now c.loop-variable.variable-index c.variable-item.result c.loop-variable-test.true c.variable-item.is
    (unknown_in_variable (name_in c.args.constants.now)) c.loop-variable.invariant ∙ (sym c.in_ok-name.ensures ∙ c.in-None.is)
