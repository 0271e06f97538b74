use Rattle.std.proofs.Common.{◌≡◌, Some, [], ◌∷◌, ◌++◌, ap, sym, ◌∙◌, option_copied}
use Rattle.std.specs.Prelude.{slice_get}
use Rattle.std.proofs.lemmas.Option.{slice_get_within, get_or_from_slice_get}
use Rattle.prism_names.specs.First.{Name}
use Rattle.typecheck.proofs.ActionLemmas.{actions-more}
use Rattle.typecheck.proofs.actions.made_actions.Goals as goal

pub loop-number-preserved : goal.loop-number-preserved
loop-number-preserved c =
    let name : Name = c.unwrap-name.result.now in
    let at : slice_get c.args.names.now.keys c.loop-number.number ≡ Some name = sym c.get_index.ensures.key ∙ ap option_copied c.unwrap-name.ensures in
    let is = get_or_from_slice_get c.args.names.now.keys c.loop-number.number name name at in
    c.in_ok-push.ensures.ok
    ∙ ((λ i. c.loop-number.invariant i ++ (record { name = c.in_ok-copy.ensures i; takes = c.in_ok-taking.ensures i } ∷ []))
    ∙ sym (actions-more c.args.acts.now c.args.names.now.keys c.loop-number.number name (slice_get_within c.args.names.now.keys c.loop-number.number name at) (sym is)))
