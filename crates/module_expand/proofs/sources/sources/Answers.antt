use Rattle.std.proofs.Common.{sym, ap, ◌∙◌, cond}
use Rattle.std.specs.Prelude.{Some, None}
use Rattle.std.specs.Option.{option_or}
use Rattle.module_expand.specs.Flat.{is_written_as}
use Rattle.module_expand.proofs.FirstLemmas.{position_more}
use Rattle.module_expand.proofs.sources.sources.Goals as goal

pub loop-place-preserved : goal.loop-place-preserved
loop-place-preserved c = λ n.
    c.in_ok-note_source.ensures n
    ∙ (ap (λ o. option_or o (cond (is_written_as n c.index-modules-place.result) (Some c.loop-place.place) None))
    (c.loop-place.invariant n)
    ∙ sym (position_more (is_written_as n) c.args.modules.now c.loop-place.place c.index-modules-place.result
    c.loop-place-test.true c.index-modules-place.is))
