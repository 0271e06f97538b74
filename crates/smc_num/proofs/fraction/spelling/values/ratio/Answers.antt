use Rattle.std.proofs.Common.{inl, inr, ◌∙◌, ap}
use Rattle.smc_num.specs.Spelling.{readable}
use Rattle.smc_num.proofs.DigitsLemmas.{ratio-large, ratio-small}
use Rattle.smc_num.proofs.fraction.spelling.values.ratio.Goals as goal

pub returns-then-top-ge-LIMIT : goal.returns-then-top-ge-LIMIT
returns-then-top-ge-LIMIT c =
    ratio-large c.args.negative _ _ _ _ c.magnitude-top.ensures c.magnitude-bottom.ensures c.if-bottom-eq0.false
    (elim c.then-top-ge-LIMIT.either [ inl large ↦ inl large | inr large ↦ inr large.1 ])

pub returns : goal.returns
returns c =
    c.readable.ensures ∙ ap readable c.reduced.ensures
    ∙ ratio-small c.args.negative _ _ _ _ c.magnitude-top.ensures c.magnitude-bottom.ensures c.if-bottom-eq0.false c.if-top-ge-LIMIT.false c.if-bottom-ge-LIMIT.false
