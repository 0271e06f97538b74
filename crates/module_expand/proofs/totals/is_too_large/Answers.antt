use Rattle.std.proofs.Common.{List, map, subst, sym, Option, ℕ}
use Rattle.std.specs.List.{flat_map}
use Rattle.prism_syntax.specs.Replaced.{replaced}
use Rattle.prism_syntax.specs.declared.expressions.Expr.{Expr}
use Rattle.module_expand.specs.Expanded.{stands_for}
use Rattle.module_expand.specs.Flat.{flat_module, flat_of}
use Rattle.module_expand.specs.Listed.{const_exprs, variable_exprs, module_exprs, bodies, exprs_of}
use Rattle.module_expand.specs.Sizes.{IsSize}
use Rattle.module_expand.proofs.SizeLemmas.{size-append}
use Rattle.module_expand.proofs.TotalLemmas.{flat_exprs, size_large, large_size}
use Rattle.module_expand.proofs.totals.is_too_large.Goals as goal

pub returns : goal.returns
returns c = λ trees expanded sizes.
    let m = c.args.model.now in
    let by : List ℕ → Option Expr = stands_for trees in
    let modules = subst (λ ms. IsSize c.in_ok-modules.modules (flat_map module_exprs (map (flat_module ms by) ms)))
    c.as_slice.ensures (c.in_ok-modules.ensures by sizes) in
    let labels = subst (λ xs. IsSize c.measure_bodies.result (map (replaced by) (bodies xs))) c.as_slice-2.ensures
    (c.measure_bodies.ensures by sizes) in
    let formulas = subst (λ xs. IsSize c.measure_bodies-2.result (map (replaced by) (bodies xs)))
    c.as_slice-3.ensures (c.measure_bodies-2.ensures by sizes) in
    let globals = subst (λ xs. IsSize c.measure_variables.result (map (replaced by) (flat_map variable_exprs xs)))
    c.as_slice-4.ensures (c.measure_variables.ensures by sizes) in
    let consts = subst (λ xs. IsSize c.measure_consts.result (map (replaced by) (flat_map const_exprs xs)))
    c.as_slice-5.ensures (c.measure_consts.ensures by sizes) in
    let inner = size-append c.in_ok-modules.modules c.measure_bodies.result c.plus-inner.result _ _
    c.plus-inner.ensures.nodes c.plus-inner.ensures.depth modules labels in
    let later = size-append c.measure_bodies-2.result c.plus-inner.result c.plus-later.result _ _
    c.plus-later.ensures.nodes c.plus-later.ensures.depth formulas inner in
    let outer = size-append c.measure_variables.result c.plus-later.result c.plus-outer.result _ _
    c.plus-outer.ensures.nodes c.plus-outer.ensures.depth globals later in
    let total = size-append c.measure_consts.result c.plus-outer.result c.plus-total.result _ _
    c.plus-total.ensures.nodes c.plus-total.ensures.depth consts outer in
    let whole : IsSize c.plus-total.result (exprs_of (flat_of m trees)) = subst (IsSize c.plus-total.result)
    (sym (flat_exprs m trees expanded)) total in (
      λ t. size_large c.plus-total.result (exprs_of (flat_of m trees)) whole (c.is_too_large.ensures.0 t),
      λ large. c.is_too_large.ensures.1 (large_size c.plus-total.result (exprs_of (flat_of m trees)) whole large),
    )
