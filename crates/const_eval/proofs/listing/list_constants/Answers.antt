use Rattle.std.proofs.Common.{◌∙◌, rules, bytes_eq}
use Rattle.indexmap.specs.IndexMap.{get}
use Rattle.const_eval.specs.Evaluating.{by_table}
use Rattle.const_eval.specs.Refusals.{TellsFirstFault}
use Rattle.const_eval.specs.Listing.{known_of, listed_results}
use Rattle.const_eval.proofs.ListingLemmas.{entries_more}
use Rattle.const_eval.proofs.RefusalLemmas.{Ends, handed_on, faults_more, fault_told}
use Rattle.const_eval.proofs.listing.list_constants.Goals as goal

pub loop-constant-preserved : goal.loop-constant-preserved
loop-constant-preserved c =
    let values = by_table (get bytes_eq c.args.values.now) in
    record {
      listed = entries_more (known_of values) c.args.consts.now c.loop-constant.constant-index c.constant-item.result c.loop-constant.known c.in_ok-name.name c.in_ok-one.one _
          c.requires.distinct c.loop-constant-test.true c.constant-item.is c.loop-constant.invariant.listed (search rules) (search rules) (search rules);
      none = faults_more values c.args.consts.now c.loop-constant.constant-index c.constant-item.result c.loop-constant-test.true c.constant-item.is c.loop-constant.invariant.none
          ∙ c.in_ok-one.ensures.value;
    }

pub returns-in_err-one-clause-told : goal.returns-in_err-one-clause-told
returns-in_err-one-clause-told c =
    let values = by_table (get bytes_eq c.args.values.now) in
    handed_on (Ends (TellsFirstFault (listed_results values c.args.consts.now))) c.from_residual.result c.in_err-one.field-0.0 c.from_residual.ensures.1
    (fault_told values c.args.consts.now c.loop-constant.constant-index c.constant-item.result c.loop-constant-test.true c.constant-item.is
    c.loop-constant.invariant.none c.in_err-one.field-0.0 c.in_err-one.ensures.told)
