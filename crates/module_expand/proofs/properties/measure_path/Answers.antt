use Rattle.std.proofs.Common.{◌∷◌, [], subst, sym}
use Rattle.prism_syntax.specs.Replaced.{replaced}
use Rattle.module_expand.specs.Properties.{flat_path, path_exprs, time_expr}
use Rattle.module_expand.specs.Sizes.{IsSize}
use Rattle.module_expand.proofs.SizeLemmas.{size-append}
use Rattle.module_expand.proofs.properties.measure_path.Goals as goal

-- the first state formula, and then the time and the second
pub returns-in-Until : goal.returns-in-Until
returns-in-Until c = λ by h.
    let later = size-append c.measure_time-in-Until.result c.measure-in-Until-2.result c.plus-in-Until.result
    (time_expr c.in-Until.time ∷ []) (replaced by c.in-Until.second ∷ [])
    c.plus-in-Until.ensures.nodes c.plus-in-Until.ensures.depth c.measure_time-in-Until.ensures
    (c.measure-in-Until-2.ensures by h) in
    let all = size-append c.measure-in-Until.result c.plus-in-Until.result c.plus-in-Until-2.result
    (replaced by c.in-Until.first ∷ []) (time_expr c.in-Until.time ∷ (replaced by c.in-Until.second ∷ []))
    c.plus-in-Until-2.ensures.nodes c.plus-in-Until-2.ensures.depth (c.measure-in-Until.ensures by h) later in
    subst (λ path. IsSize c.plus-in-Until-2.result (path_exprs (flat_path by path))) (sym c.in-Until.is) all

-- the time, and then the state formula
pub returns-in-Finally : goal.returns-in-Finally
returns-in-Finally c = λ by h.
    let all = size-append c.measure_time.result c.measure-in-Finally.result c.plus.result
    (time_expr c.in-Finally.time ∷ []) (replaced by c.in-Finally.state ∷ [])
    c.plus.ensures.nodes c.plus.ensures.depth c.measure_time.ensures (c.measure-in-Finally.ensures by h) in
    subst (λ path. IsSize c.plus.result (path_exprs (flat_path by path))) (sym c.in-Finally.is) all

pub returns-in-Globally : goal.returns-in-Globally
returns-in-Globally c = λ by h.
    let all = size-append c.measure_time-in-Globally.result c.measure-in-Globally.result c.plus-in-Globally.result
    (time_expr c.in-Globally.time ∷ []) (replaced by c.in-Globally.state ∷ [])
    c.plus-in-Globally.ensures.nodes c.plus-in-Globally.ensures.depth c.measure_time-in-Globally.ensures
    (c.measure-in-Globally.ensures by h) in
    subst (λ path. IsSize c.plus-in-Globally.result (path_exprs (flat_path by path))) (sym c.in-Globally.is) all
