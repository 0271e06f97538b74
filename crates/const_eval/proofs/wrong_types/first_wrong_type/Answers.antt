use Rattle.std.proofs.Common.{ap, sym, ◌∙◌, not, bytes_eq, option_map}
use Rattle.indexmap.specs.IndexMap.{get}
use Rattle.const_eval.specs.Tables.{sort_of_word}
use Rattle.const_eval.specs.Constants.{sort_found}
use Rattle.const_eval.specs.Refusals.{is_found_fitting}
use Rattle.const_eval.proofs.FirstLemmas.{none_more, found_here}
use Rattle.const_eval.proofs.wrong_types.first_wrong_type.Goals as goal

pub returns-then-is_wrong : goal.returns-then-is_wrong
returns-then-is_wrong c =
    sym (ap (option_map (λ d. d.name)) (found_here c.args.consts.now c.loop-constant.constant-index c.constant-item.result c.loop-constant-test.true c.constant-item.is
    (λ d. not (is_found_fitting (sort_of_word d.sort) (sort_found (get bytes_eq c.args.sorts.now) (get bytes_eq c.args.given.now) d)))
    c.loop-constant.invariant (sym c.is_wrong.ensures ∙ c.if-is_wrong.true)))

pub loop-constant-preserved : goal.loop-constant-preserved
loop-constant-preserved c =
    none_more c.args.consts.now c.loop-constant.constant-index c.constant-item.result c.loop-constant-test.true c.constant-item.is
    (λ d. not (is_found_fitting (sort_of_word d.sort) (sort_found (get bytes_eq c.args.sorts.now) (get bytes_eq c.args.given.now) d)))
    c.loop-constant.invariant (sym c.is_wrong.ensures ∙ c.if-is_wrong.false)
