use Rattle.std.proofs.Common.{List, sym, subst}
use Rattle.prism_syntax.specs.declared.labels.Labels.TheVariants.{Refused}
use Rattle.prism_syntax.specs.declared.models.Named.{Named}
use Rattle.prism_syntax.specs.WellFormed.{IsFormedFlat}
use Rattle.module_expand.specs.Duplicates.{AreNamedApart}
use Rattle.module_expand.specs.Expanded.{stands_for}
use Rattle.module_expand.specs.Flat.{IsFlat}
use Rattle.module_expand.specs.Refusals.{IsRefused}
use Rattle.module_expand.proofs.DecideLemmas.{refused_by}
use Rattle.module_expand.proofs.DistinctLemmas.{formulas_apart}
use Rattle.module_expand.proofs.ExistsLemmas.{has_expansion}
use Rattle.module_expand.proofs.ExpandedLemmas.{one_expansion}
use Rattle.module_expand.proofs.FlatFormedLemmas.{flat_formed}
use Rattle.module_expand.proofs.FormedLemmas.{StandForFormed}
use Rattle.module_expand.proofs.NamedApartLemmas.{named_apart}
use Rattle.module_expand.proofs.expanding.expand_with.Goals as goal

pub written_out-requires-clause-distinct : goal.written_out-requires-clause-distinct
written_out-requires-clause-distinct c = formulas_apart c.args.model.now c.in_ok-order.ensures.apart

pub returns-in-Ok-clause-formed : goal.returns-in-Ok-clause-formed
returns-in-Ok-clause-formed c = λ h.
    let m = c.args.model.now in
    let flat = c.in-Ok.flat in
    let is : IsFlat m flat = c.in-Ok.ensures in
    let whole = has_expansion m.formulas c.in_ok-order.order.items c.in_ok-order.ensures.order
    (formulas_apart m c.in_ok-order.ensures.apart) in
    let formed = subst (λ (trees : List Named). StandForFormed Refused (stands_for trees))
    (one_expansion m.formulas whole.trees flat.formulas whole.expanded is.formulas) (whole.formed h.formulas) in
    subst IsFormedFlat (sym is.rest) (flat_formed m flat.formulas is.formulas formed h)

pub returns-in-Ok-clause-distinct : goal.returns-in-Ok-clause-distinct
returns-in-Ok-clause-distinct c =
    let m = c.args.model.now in
    let is : IsFlat m c.in-Ok.flat = c.in-Ok.ensures in
    subst AreNamedApart (sym is.rest) (named_apart m c.in-Ok.flat.formulas c.in_ok-order.ensures.apart
    c.in_ok-order.ensures.kept is.formulas)

pub returns-in_err-order-clause-refused : goal.returns-in_err-order-clause-refused
returns-in_err-order-clause-refused c =
    refused_by (IsRefused c.args.model.now) c.from_residual.result c.in_err-order.field-0.0
    c.from_residual.ensures.1 c.in_err-order.ensures.decides
