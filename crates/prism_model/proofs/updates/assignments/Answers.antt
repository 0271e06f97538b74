use Rattle.std.proofs.Common.{◌∷◌, [], ◌++◌, ◌≡◌}
use Rattle.prism_reading.proofs.AnswerLemmas.{passed}
use Rattle.prism_model.proofs.DefiniteLineLemmas.{assign_has, assigns_divide}
use Rattle.prism_reading.proofs.SeparatedLemmas.{further_shorter, last_found, separated_onward, text_missing}
use Rattle.prism_model.proofs.updates.assignments.Goals as goal

pub returns-in_err-set : goal.returns-in_err-set
returns-in_err-set c = passed _ _ _ c.in_err-set.field-0.0 c.from_residual.result c.from_residual.ensures.1 c.in_err-set.ensures (λ left none. c.loop-sets.invariant.none left (text_missing assigns_divide assign_has none))

pub loop-sets-smaller : goal.loop-sets-smaller
loop-sets-smaller c = further_shorter c.in_ok-set.ensures c.in-Some.ensures

pub loop-sets-preserved : goal.loop-sets-preserved
loop-sets-preserved c =
    let pushed : c.push.new.self ≡ c.loop-sets.sets ++ (c.in_ok-set.set ∷ []) = c.in_ok-push.ensures.ok in
    rw pushed (separated_onward assigns_divide assign_has c.loop-sets.invariant c.in_ok-set.ensures c.in-Some.ensures)

pub returns-in-None : goal.returns-in-None
returns-in-None c =
    let pushed : c.push.new.self ≡ c.loop-sets.sets ++ (c.in_ok-set.set ∷ []) = c.in_ok-push.ensures.ok in
    rw pushed (c.loop-sets.invariant.all (c.in_ok-set.set ∷ []) c.in_ok-set.end.now (last_found assigns_divide c.in-None.ensures c.in_ok-set.ensures))
