use Rattle.std.proofs.Common.{bytes_eq, sym, ap, ◌∙◌, cond}
use Rattle.std.specs.Prelude.{Some, None}
use Rattle.std.specs.Option.{option_or}
use Rattle.module_expand.proofs.FirstLemmas.{position_more}
use Rattle.module_expand.proofs.cycles.places.Goals as goal

pub loop-place-preserved : goal.loop-place-preserved
loop-place-preserved c = λ n.
    c.in_ok-put_first.ensures n
    ∙ (ap (λ o. option_or o (cond (bytes_eq c.index-formulas-place.result.name n) (Some c.loop-place.place) None))
    (c.loop-place.invariant n)
    ∙ sym (position_more (λ f. bytes_eq f.name n) c.args.formulas.now c.loop-place.place
    c.index-formulas-place.result c.loop-place-test.true c.index-formulas-place.is))
