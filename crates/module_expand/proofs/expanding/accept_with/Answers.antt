use Rattle.std.proofs.Common.{subst}
use Rattle.name_graph.specs.Graph.{IsOrder}
use Rattle.module_expand.specs.Refusals.{IsRefused, uses_of}
use Rattle.module_expand.proofs.DecideLemmas.{Passed, decided_by, at_modules, none_refused}
use Rattle.module_expand.proofs.DistinctLemmas.{formulas_apart}
use Rattle.module_expand.proofs.expanding.accept_with.Goals as goal

pub accept_modules-requires-clause-distinct : goal.accept_modules-requires-clause-distinct
accept_modules-requires-clause-distinct c = formulas_apart c.args.model.now c.in_ok-refuse_duplicate.ensures

pub returns-in_err-accept_modules-clause-decides : goal.returns-in_err-accept_modules-clause-decides
returns-in_err-accept_modules-clause-decides c =
    let m = c.args.model.now in
    let order : IsOrder (uses_of m.formulas) c.in_ok-order.order.items =
    subst (λ fs. IsOrder (uses_of fs) c.in_ok-order.order.items) c.as_slice.ensures c.in_ok-order.ensures in
    let passed : Passed m = record {
      duplicate = c.in_ok-refuse_duplicate.ensures;
      cycle =
          c.order_law.ensures (uses_of m.formulas) c.in_ok-order.order.items order;
    } in
    let f = c.in_err-accept_modules.field-0.0 in
    decided_by (IsRefused m) c.from_residual-in_err-accept_modules.result f
    c.from_residual-in_err-accept_modules.ensures.1 (at_modules m f passed c.in_err-accept_modules.ensures.decides)

pub returns-clause-decides : goal.returns-clause-decides
returns-clause-decides c =
    let m = c.args.model.now in
    let order : IsOrder (uses_of m.formulas) c.in_ok-order.order.items =
    subst (λ fs. IsOrder (uses_of fs) c.in_ok-order.order.items) c.as_slice.ensures c.in_ok-order.ensures in
    let passed : Passed m = record {
      duplicate = c.in_ok-refuse_duplicate.ensures;
      cycle =
          c.order_law.ensures (uses_of m.formulas) c.in_ok-order.order.items order;
    } in
    none_refused m passed c.in_ok-accept_modules.ensures.decides
