use Rattle.std.proofs.Common.{map, subst, sym}
use Rattle.std.specs.Option.{option_to_list}
use Rattle.std.proofs.lemmas.List.{map-append}
use Rattle.prism_syntax.specs.Replaced.{replaced}
use Rattle.module_expand.specs.Sizes.{IsSize}
use Rattle.module_expand.proofs.SizeLemmas.{size-append}
use Rattle.module_expand.proofs.totals.measure_branch.Goals as goal

pub returns : goal.returns
returns c = λ by h. subst (IsSize c.plus.result)
    (sym (map-append (replaced by) (option_to_list c.args.branch.now.weight) (map (λ s. s.1) c.args.branch.now.sets)))
    (size-append c.measure_optional.result c.measure_sets.result c.plus.result
    (map (replaced by) (option_to_list c.args.branch.now.weight))
    (map (replaced by) (map (λ s. s.1) c.args.branch.now.sets)) c.plus.ensures.nodes c.plus.ensures.depth
    (c.measure_optional.ensures by h)
    (subst (λ ss. IsSize c.measure_sets.result (map (replaced by) (map (λ s. s.1) ss))) c.as_slice.ensures
    (c.measure_sets.ensures by h)))
