use Rattle.std.proofs.Common.{◌∷◌, [], ◌++◌, ◌≡◌}
use Rattle.prism_reading.proofs.AnswerLemmas.{passed}
use Rattle.prism_model.proofs.DefiniteLineLemmas.{branches_divide, weighted_has}
use Rattle.prism_reading.proofs.SeparatedLemmas.{further_shorter, last_found, separated_onward, text_missing}
use Rattle.prism_model.proofs.branches.weighted_branches.Goals as goal

pub returns-in_err-branch : goal.returns-in_err-branch
returns-in_err-branch c = passed _ _ _ c.in_err-branch.field-0.0 c.from_residual.result c.from_residual.ensures.1 c.in_err-branch.ensures (λ left none. c.loop-branches.invariant.none left (text_missing branches_divide weighted_has none))

pub loop-branches-smaller : goal.loop-branches-smaller
loop-branches-smaller c = further_shorter c.in_ok-branch.ensures c.in-Some.ensures

pub loop-branches-preserved : goal.loop-branches-preserved
loop-branches-preserved c =
    let pushed : c.push.new.self ≡ c.loop-branches.branches ++ (c.in_ok-branch.branch ∷ []) = c.in_ok-push.ensures.ok in
    rw pushed (separated_onward branches_divide weighted_has c.loop-branches.invariant c.in_ok-branch.ensures c.in-Some.ensures)

pub returns-in-None : goal.returns-in-None
returns-in-None c =
    let pushed : c.push.new.self ≡ c.loop-branches.branches ++ (c.in_ok-branch.branch ∷ []) = c.in_ok-push.ensures.ok in
    rw pushed (c.loop-branches.invariant.all (c.in_ok-branch.branch ∷ []) c.in_ok-branch.end.now (last_found branches_divide (c.in_ok-branch.ensures.follows, c.in-None.ensures) c.in_ok-branch.ensures))
