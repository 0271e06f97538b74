-- The groups stand for the choices.
use Rattle.std.proofs.Common.{ℕ, List, Err, subst, ◌^◌, ◌+◌, ap, sym, ◌∙◌, min, length, arith}
use Rattle.std.specs.Prelude.{flat_map}
use Rattle.chain_model.specs.Choices.{enabled_from}
use Rattle.chain_model.specs.declared.chain.Act.{Act}
use Rattle.trace_meaning.specs.Gives.{Gives}
use Rattle.trace_meaning.specs.Groups.{group_choices, groups_of}
use Rattle.trace_meaning.proofs.ListingLemmas.{limited_many, limited_few, limited_err}
use Rattle.trace_meaning.proofs.listing.counted_groups.Goals as goal

pub returns-then-count-clause-choices : goal.returns-then-count-clause-choices
returns-then-count-clause-choices c =
    limited_many c.args.chain.now c.args.state.now c.total-count.result c.in-Ok.enabled c.in-Ok-groups.groups
    (ap (enabled_from 0 c.args.state.now) (sym c.as_slice.ensures) ∙ c.in-Ok.ensures) (c.in-Ok-groups.ensures ∙ ap (groups_of c.args.chain.now) c.as_slice-2.ensures)
    (c.total-count.ensures ∙ ap (λ w. min (length (flat_map group_choices w)) (2 ^ 48 + 1)) c.as_slice-3.ensures) (omega (arith, c.if-count.true))

pub returns-clause-choices : goal.returns-clause-choices
returns-clause-choices c =
    limited_few c.args.chain.now c.args.state.now c.total-count.result c.in-Ok.enabled c.in-Ok-groups.groups
    (ap (enabled_from 0 c.args.state.now) (sym c.as_slice.ensures) ∙ c.in-Ok.ensures) (c.in-Ok-groups.ensures ∙ ap (groups_of c.args.chain.now) c.as_slice-2.ensures)
    (c.total-count.ensures ∙ ap (λ w. min (length (flat_map group_choices w)) (2 ^ 48 + 1)) c.as_slice-3.ensures) (omega (arith, c.if-count.false))

pub returns-in-Err-clause-choices : goal.returns-in-Err-clause-choices
returns-in-Err-clause-choices c =
    limited_err c.args.chain.now c.args.state.now c.in-Err.fault
    (subst (λ (acts : List Act). Gives {X = List ℕ} (Err c.in-Err.fault) (enabled_from 0 c.args.state.now acts)) c.as_slice.ensures c.in-Err.ensures)
