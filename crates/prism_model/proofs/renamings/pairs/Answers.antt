use Rattle.std.proofs.Common.{◌∷◌, [], ◌++◌, ◌≡◌}
use Rattle.prism_reading.proofs.AnswerLemmas.{passed}
use Rattle.prism_model.proofs.DefiniteLineLemmas.{pair_has, pairs_divide}
use Rattle.prism_reading.proofs.SeparatedLemmas.{further_shorter, last_found, separated_onward, text_missing}
use Rattle.prism_model.proofs.renamings.pairs.Goals as goal

pub returns-in_err-next : goal.returns-in_err-next
returns-in_err-next c = passed _ _ _ c.in_err-next.field-0.0 c.from_residual.result c.from_residual.ensures.1 c.in_err-next.ensures (λ left none. c.loop-pairs.invariant.none left (text_missing pairs_divide pair_has none))

pub loop-pairs-smaller : goal.loop-pairs-smaller
loop-pairs-smaller c = further_shorter c.in_ok-next.ensures c.in-Some.ensures

pub loop-pairs-preserved : goal.loop-pairs-preserved
loop-pairs-preserved c =
    let pushed : c.push.new.self ≡ c.loop-pairs.pairs ++ (c.in_ok-next.next ∷ []) = c.in_ok-push.ensures.ok in
    rw pushed (separated_onward pairs_divide pair_has c.loop-pairs.invariant c.in_ok-next.ensures c.in-Some.ensures)

pub returns-in-None : goal.returns-in-None
returns-in-None c =
    let pushed : c.push.new.self ≡ c.loop-pairs.pairs ++ (c.in_ok-next.next ∷ []) = c.in_ok-push.ensures.ok in
    rw pushed (c.loop-pairs.invariant.all (c.in_ok-next.next ∷ []) c.in_ok-next.end.now (last_found pairs_divide c.in-None.ensures c.in_ok-next.ensures))
