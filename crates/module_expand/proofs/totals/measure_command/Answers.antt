use Rattle.std.proofs.Common.{◌∷◌, [], map, subst}
use Rattle.std.specs.List.{flat_map}
use Rattle.prism_syntax.specs.Replaced.{replaced}
use Rattle.module_expand.specs.Listed.{branch_exprs}
use Rattle.module_expand.specs.Sizes.{IsSize}
use Rattle.module_expand.proofs.SizeLemmas.{size-append}
use Rattle.module_expand.proofs.totals.measure_command.Goals as goal

pub returns : goal.returns
returns c = λ by h. size-append c.measure.result c.measure_branches.result c.plus.result
    (replaced by c.args.command.now.guard ∷ [])
    (map (replaced by) (flat_map branch_exprs c.args.command.now.branches)) c.plus.ensures.nodes c.plus.ensures.depth
    (c.measure.ensures by h)
    (subst (λ bs. IsSize c.measure_branches.result (map (replaced by) (flat_map branch_exprs bs))) c.as_slice.ensures
    (c.measure_branches.ensures by h))
