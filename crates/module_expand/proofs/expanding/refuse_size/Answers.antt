use mathlib.Core.Logic.{inr}
use Rattle.module_expand.proofs.DecideLemmas.{size_told}
use Rattle.module_expand.proofs.ExistsLemmas.{has_expansion}
use Rattle.module_expand.proofs.expanding.refuse_size.Goals as goal

pub returns-in-Ok-true : goal.returns-in-Ok-true
returns-in-Ok-true c =
    let m = c.args.model.now in
    let whole = has_expansion m.formulas c.args.order.now c.requires.order c.requires.distinct in
    inr (size_told m whole.trees whole.expanded
    ((c.in-Ok-true.ensures whole.trees whole.expanded).0 c.in-Ok-true.field-0-test))
