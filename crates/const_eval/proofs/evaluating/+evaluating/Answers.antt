-- Where no operator is left, the chain has its value.
use Rattle.std.proofs.Common.{◌+◌, sym, ap, ◌∙◌, drop, map, bytes_eq}
use Rattle.std.proofs.lemmas.List.{drop_all}
use Rattle.indexmap.specs.IndexMap.{get}
use Rattle.chain_model.specs.Values.{links_value}
use Rattle.const_eval.specs.Tables.{op_of}
use Rattle.const_eval.specs.Evaluating.{value_in, by_table}
use Rattle.const_eval.proofs.EvaluatingLemmas.{links_value-end}
use Rattle.const_eval.proofs.evaluating.+evaluating.Goals as goal

pub level-returns : goal.level-returns
level-returns t c =
    let rest = map (value_in (by_table (get bytes_eq c.args.values.now))) (drop (c.loop-index.index + 1) c.args.operands.now) in
    sym (ap (λ ops. links_value c.loop-index.begun rest (map op_of ops)) (drop_all c.loop-index.index c.args.operators.now c.loop-index-test.false)
    ∙ links_value-end c.loop-index.begun rest)
    ∙ c.loop-index.invariant
