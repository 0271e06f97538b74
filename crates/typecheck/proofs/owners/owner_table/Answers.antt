use Rattle.std.proofs.Common.{ℕ, List, Option, [], ◌∷◌, ◌++◌, map, take, subst, sym, ap, ◌∙◌}
use Rattle.prism_names.specs.First.{Name}
use Rattle.prism_names.proofs.NameLemmas.{one_more}
use Rattle.typecheck.specs.Owners.{AreOwners}
use Rattle.typecheck.proofs.owners.owner_table.Goals as goal

pub loop-variable-preserved : goal.loop-variable-preserved
loop-variable-preserved c =
    let before : List (Name × Option ℕ) = map (λ v. (v.1.now.name, v.0)) (take c.loop-variable.variable-index c.args.variables.now) in
    subst (λ (owners : List (Name × Option ℕ)). AreOwners c.add_owner.new.table owners)
    (ap (λ n. before ++ ((n, c.variable-item.result.0) ∷ [])) c.in_ok-copy.ensures
    ∙ sym (one_more (λ v. (v.1.now.name, v.0)) c.args.variables.now c.loop-variable.variable-index c.variable-item.result c.loop-variable-test.true c.variable-item.is))
    (c.in_ok-add_owner.ensures before c.loop-variable.invariant)
