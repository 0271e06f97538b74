use Rattle.std.proofs.Common.{is_some, sym, ap, ◌∙◌, arith}
use Rattle.module_expand.proofs.FoundLemmas.{some_copied}
use Rattle.module_expand.proofs.LeftOutLemmas.{pairs_more, first_found, none_found}
use Rattle.module_expand.proofs.left_out.first_unnamed.Goals as goal

pub loop-variable-init : goal.loop-variable-init
loop-variable-init c = λ pairs same j n lt at none. absurd (omega (arith, lt))

pub loop-variable-preserved : goal.loop-variable-preserved
loop-variable-preserved c = λ pairs same. pairs_more c.args.variables.now pairs c.loop-variable.variable
    c.index-variables-variable.result
    c.loop-variable-test.true c.index-variables-variable.is
    (ap is_some (sym (same c.index-variables-variable.result.name))
    ∙ (some_copied _ ∙ (ap is_some (sym c.get.ensures.value)
    ∙ (some_copied c.get.result ∙ c.if-is_none.ensures)))) (c.loop-variable.invariant pairs same)

pub returns-then-is_none : goal.returns-then-is_none
returns-then-is_none c = λ pairs same. first_found c.args.variables.now pairs c.args.place c.loop-variable.variable
    c.index-variables-variable.result
    c.loop-variable-test.true c.index-variables-variable.is
    (ap is_some (sym (same c.index-variables-variable.result.name))
    ∙ (some_copied _ ∙ (ap is_some (sym c.get.ensures.value)
    ∙ (some_copied c.get.result ∙ c.if-is_none.ensures)))) (c.loop-variable.invariant pairs same)

pub returns : goal.returns
returns c = λ pairs same. none_found c.args.variables.now pairs c.args.place c.loop-variable.variable
    c.loop-variable-test.false (c.loop-variable.invariant pairs same)
