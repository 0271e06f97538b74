-- Where no operator is left, the chain has its value.
use Rattle.std.proofs.Common.{◌+◌, sym, ap, ◌∙◌, drop, map}
use Rattle.std.proofs.lemmas.List.{drop_all}
use Rattle.chain_model.specs.Values.{value_with, links_value}
use Rattle.trace_meaning.proofs.ValueLemmas.{links_value-end}
use Rattle.trace_meaning.proofs.values.+values.Goals as goal

pub level-returns : goal.level-returns
level-returns g t c =
    let rest = map (value_with (g.L.BuiltInLabels.values c.args.labels.now) c.args.state.now) (drop (c.loop-index.index + 1) c.args.operands.now) in
    sym (ap (links_value c.loop-index.value rest) (drop_all c.loop-index.index c.args.operators.now c.loop-index-test.false)
    ∙ links_value-end c.loop-index.value rest)
    ∙ c.loop-index.invariant
