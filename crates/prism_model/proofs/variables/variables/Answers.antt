use Rattle.std.proofs.Common.{◌∷◌, [], ◌++◌, ◌≡◌}
use Rattle.prism_reading.proofs.AnswerLemmas.{passed}
use Rattle.prism_model.proofs.DefiniteLineLemmas.{variable_starts}
use Rattle.prism_model.proofs.ModuleLemmas.{variables_repeat}
use Rattle.prism_reading.proofs.EachLemmas.{each_onward, next_missing, onward_ended, shorter}
use Rattle.prism_model.proofs.variables.variables.Goals as goal

pub returns-in_err-next : goal.returns-in_err-next
returns-in_err-next c = passed _ _ _ c.in_err-next.field-0.0 c.from_residual.result c.from_residual.ensures.1 c.in_err-next.ensures (λ left none. c.loop-alloc.invariant.none left (next_missing variables_repeat c.loop-alloc-test.ensures none))

pub loop-alloc-smaller : goal.loop-alloc-smaller
loop-alloc-smaller c = shorter variable_starts c.in_ok-next.ensures

pub loop-alloc-preserved : goal.loop-alloc-preserved
loop-alloc-preserved c =
    let pushed : c.push.new.self ≡ c.loop-alloc.variables ++ (c.in_ok-next.next ∷ []) = c.in_ok-push.ensures.ok in
    rw pushed (each_onward variables_repeat c.loop-alloc-test.ensures c.loop-alloc.invariant c.in_ok-next.ensures)

pub returns : goal.returns
returns c = onward_ended variables_repeat c.loop-alloc.invariant c.loop-alloc-test.ensures
