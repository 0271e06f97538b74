use Rattle.std.proofs.Common.{◌∷◌, [], ◌++◌, map, subst, sym}
use Rattle.std.specs.Option.{option_to_list}
use Rattle.std.specs.List.{flat_map}
use Rattle.prism_syntax.specs.Replaced.{replaced}
use Rattle.module_expand.specs.Sizes.{IsSize}
use Rattle.module_expand.proofs.SizeLemmas.{size-append}
use Rattle.module_expand.proofs.totals.measure_variable.Goals as goal

-- both ends of the range, and then the initial value
pub returns-in-Some : goal.returns-in-Some
returns-in-Some c = λ by h.
    let low = c.in-Some.low in
    let high = c.in-Some.high in
    let init = c.args.variable.now.init in
    let both = size-append c.measure.result c.measure-in-Some.result c.plus.result (replaced by low ∷ [])
    (replaced by high ∷ [])
    c.plus.ensures.nodes c.plus.ensures.depth (c.measure.ensures by h) (c.measure-in-Some.ensures by h) in
    let all = size-append c.plus.result c.measure_optional-init.result c.plus-in-Some.result (replaced by low
    ∷ (replaced by high ∷ [])) (map (replaced by) (option_to_list init))
    c.plus-in-Some.ensures.nodes c.plus-in-Some.ensures.depth both (c.measure_optional-init.ensures by h) in
    subst (λ range. IsSize c.plus-in-Some.result
    (map (replaced by) (flat_map (λ r. r.0 ∷ (r.1 ∷ [])) (option_to_list range) ++ option_to_list init)))
    (sym c.in-Some.is) all
