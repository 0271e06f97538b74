use Rattle.std.proofs.Common.{◌∷◌, ◌∙◌, refl, ap}
use Rattle.prism_syntax.specs.declared.tokens.Kind.TheVariants as k
use Rattle.prism_model.proofs.TokenLemmas.{starts_with}
use Rattle.prism_model.proofs.BranchLemmas.{no_name_target, target_seen}
use Rattle.prism_model.proofs.StepLemmas.{begin_with}
use Rattle.prism_model.proofs.branches.begins_target.Goals as goal

pub returns-in-Name : goal.returns-in-Name
returns-in-Name c = target_seen c.args.tokens.now c.in-Some.rest.now _ _ _ _ (begin_with c.in-Some.ensures) (starts_with c.in-Some.rest.now c.first-item.result _ c.in-len1-up.len_at_least c.first-item.is c.in-Name.is) c.accept-in-Name.ensures c.is_some.ensures

pub returns-in_default-kind : goal.returns-in_default-kind
returns-in_default-kind c =
    no_name_target _ _ _
    (begin_with c.in-Some.ensures ∙ ap (λ l. k.Open ∷ l) (starts_with c.in-Some.rest.now c.first-item.result _ c.in-len1-up.len_at_least c.first-item.is refl))
    c.in_default-kind.not-Name
