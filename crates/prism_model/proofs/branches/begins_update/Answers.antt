use Rattle.prism_model.proofs.BranchLemmas.{end_seen, update_seen}
use Rattle.prism_model.proofs.StepLemmas.{begin_with}
use Rattle.prism_model.proofs.branches.begins_update.Goals as goal

pub returns-in-Some : goal.returns-in-Some
returns-in-Some c = end_seen c.args.tokens.now c.in-Some.rest.now _ _ (begin_with c.in-Some.ensures) c.accept-in-Some.ensures c.is_some.ensures

pub returns-in-None : goal.returns-in-None
returns-in-None c = update_seen _ _ c.in-None.ensures c.begins_target.ensures
