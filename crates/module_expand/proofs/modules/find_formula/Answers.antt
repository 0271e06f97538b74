use Rattle.std.proofs.Common.{bytes_eq, is_some, sym, ap, ◌∙◌}
use Rattle.indexmap.specs.IndexMap.{get}
use Rattle.module_expand.proofs.FoundLemmas.{none_mapped_more, found_mapped, none_mapped, some_copied}
use Rattle.module_expand.proofs.modules.find_formula.Goals as goal

pub loop-pair-preserved : goal.loop-pair-preserved
loop-pair-preserved c = none_mapped_more (λ name. is_some (get bytes_eq c.args.formulas.now name)) (λ p. p.1)
    c.args.pairs.now c.loop-pair.pair-index c.pair-item.result
    c.loop-pair-test.true c.pair-item.is c.loop-pair.invariant
    (ap is_some (sym c.get.ensures.value) ∙ (some_copied c.get.result ∙ (sym c.is_some.ensures ∙ c.if-is_some.false)))

pub returns-then-is_some : goal.returns-then-is_some
returns-then-is_some c = sym (found_mapped (λ name. is_some (get bytes_eq c.args.formulas.now name)) (λ p. p.1)
    c.args.pairs.now c.loop-pair.pair-index c.pair-item.result
    c.loop-pair-test.true c.pair-item.is c.loop-pair.invariant
    (ap is_some (sym c.get.ensures.value) ∙ (some_copied c.get.result ∙ (sym c.is_some.ensures ∙ c.if-is_some.true))))

pub returns : goal.returns
returns c = sym (none_mapped (λ name. is_some (get bytes_eq c.args.formulas.now name)) (λ p. p.1)
    c.args.pairs.now c.loop-pair.pair-index c.loop-pair-test.false c.loop-pair.invariant)
