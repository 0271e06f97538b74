use Rattle.std.proofs.Common.{ap, sym, ◌∙◌, not, ◌&&◌, is_some, bytes_eq, option_map}
use Rattle.indexmap.specs.IndexMap.{get}
use Rattle.const_eval.proofs.FirstLemmas.{none_more, found_here}
use Rattle.const_eval.proofs.undefined.first_undefined.Goals as goal

pub returns-then-is_undefined : goal.returns-then-is_undefined
returns-then-is_undefined c =
    sym (ap (option_map (λ d. d.name)) (found_here c.args.consts.now c.loop-constant.constant-index c.constant-item.result c.loop-constant-test.true c.constant-item.is
    (λ d. not (is_some d.value) && not (is_some (get bytes_eq c.args.given.now d.name))) c.loop-constant.invariant (sym c.is_undefined.ensures ∙ c.if-is_undefined.true)))

pub loop-constant-preserved : goal.loop-constant-preserved
loop-constant-preserved c =
    none_more c.args.consts.now c.loop-constant.constant-index c.constant-item.result c.loop-constant-test.true c.constant-item.is
    (λ d. not (is_some d.value) && not (is_some (get bytes_eq c.args.given.now d.name))) c.loop-constant.invariant (sym c.is_undefined.ensures ∙ c.if-is_undefined.false)
