-- The traces before one are admitted; it ends the run, or is admitted too.
use Rattle.std.proofs.Common.{◌+◌, arith, refl, ap, ◌∙◌}
use Rattle.chain_model.specs.Outcome.{IsOutcome}
use Rattle.stop_rules.specs.Decision.{Counts}
use Rattle.stop_rules.proofs.BlockLemmas.{block_is_code}
use Rattle.sampling_run.proofs.RunLemmas.{admitted_none, admitted_one_more, one_more_counted, ends_with_next}
use Rattle.sampling_run.proofs.EndLemmas.{fault_of_end, few_at_end, seen_all, lines_of_all, not_past_limit}
use Rattle.sampling_run.proofs.drawing.draw_in.Goals as goal

pub loop-trace-init : goal.loop-trace-init
loop-trace-init g c = record {
  work = c.requires.work;
  same = c.in_ok-admit.ensures.goal;
  limit = refl;
  many = let begun = c.in_ok-admit.ensures.tally in ap (λ (v : Counts). v.d + v.f) begun;
  ready = c.in_ok-admit.ensures.ready;
  admitted = admitted_none c.args.job.now c.args.goal _ _ c.in_ok-admit.admit.tally c.in_ok-admit.ensures.tally c.in_ok-admit.ensures.seats;
}

pub feed_code-requires-clause-code : goal.feed_code-requires-clause-code
feed_code-requires-clause-code g c =
    let block = c.code_of_one.ensures c.args.job.now c.loop-trace.trace c.outcome-outcome.ensures.outcome in
    block_is_code (IsOutcome c.args.job.now) c.loop-trace.trace 1 c.code_of_one.result (omega arith) (omega arith) block

pub returns-in-Some-clause-end : goal.returns-in-Some-clause-end
returns-in-Some-clause-end g c =
    let block = c.code_of_one.ensures c.args.job.now c.loop-trace.trace c.outcome-outcome.ensures.outcome in
    let ends = rw c.loop-trace.invariant.same at ((c.feed_code.ensures.end c.in-Some.end).0 c.in-Some.is) in
    ends_with_next c.args.job.now c.args.goal _ _ c.loop-trace.admit.tally c.loop-trace.trace c.code_of_one.result c.in-Some.end c.loop-trace.invariant.admitted block ends

pub returns-in-Some-clause-fault : goal.returns-in-Some-clause-fault
returns-in-Some-clause-fault g c =
    let block = c.code_of_one.ensures c.args.job.now c.loop-trace.trace c.outcome-outcome.ensures.outcome in
    let ends = rw c.loop-trace.invariant.same at ((c.feed_code.ensures.end c.in-Some.end).0 c.in-Some.is) in
    fault_of_end c.args.job.now c.args.goal c.loop-trace.admit.tally c.loop-trace.trace c.code_of_one.result c.outcome-outcome.result c.in-Some.end c.fault_of.result
    c.outcome-outcome.ensures.outcome c.loop-trace.invariant.many block ends c.fault_of.ensures

pub returns-in-Some-clause-few : goal.returns-in-Some-clause-few
returns-in-Some-clause-few g c =
    let block = c.code_of_one.ensures c.args.job.now c.loop-trace.trace c.outcome-outcome.ensures.outcome in
    let ends = rw c.loop-trace.invariant.same at ((c.feed_code.ensures.end c.in-Some.end).0 c.in-Some.is) in
    let few = few_at_end c.args.job.now c.args.goal c.loop-trace.admit.tally c.loop-trace.trace c.code_of_one.result c.in-Some.end c.loop-trace.invariant.many block ends in
    let limit = c.loop-trace.invariant.limit in
    omega (arith, few, limit)

pub returns-in-Some-clause-lines : goal.returns-in-Some-clause-lines
returns-in-Some-clause-lines g c =
    let block = c.code_of_one.ensures c.args.job.now c.loop-trace.trace c.outcome-outcome.ensures.outcome in
    let ends = rw c.loop-trace.invariant.same at ((c.feed_code.ensures.end c.in-Some.end).0 c.in-Some.is) in
    let fed = rw c.loop-trace.invariant.same at c.feed_code.ensures.seats in
    lines_of_all c.args.job.now c.args.goal _ _ _ c.in-Some.end c.finish.result.items
    (seen_all c.args.job.now c.args.goal _ _ _ c.loop-trace.admit.tally c.feed_code.new.self.tally c.loop-trace.trace c.code_of_one.result c.in-Some.end
    c.loop-trace.invariant.admitted c.loop-trace.invariant.many block ends c.in-Some.ensures.ended fed)
    c.finish.ensures

pub loop-trace-preserved : goal.loop-trace-preserved
loop-trace-preserved g c =
    let block = c.code_of_one.ensures c.args.job.now c.loop-trace.trace c.outcome-outcome.ensures.outcome in
    let whole = c.in_default.ensures.whole in
    let past = rw c.loop-trace.invariant.same at c.in_default.ensures.past in
    let fed = rw c.loop-trace.invariant.same at c.feed_code.ensures.seats in
    record {
      work = c.outcome-outcome.ensures.work;
      same = c.feed_code.ensures.goal ∙ c.loop-trace.invariant.same;
      limit = refl;
      many = let once = one_more_counted c.args.goal c.loop-trace.admit.tally c.feed_code.new.self.tally c.code_of_one.result whole past in omega (arith, once, c.loop-trace.invariant.many);
      ready = c.feed_code.ensures.ready;
      admitted = admitted_one_more c.args.job.now c.args.goal _ _ _ c.loop-trace.admit.tally c.feed_code.new.self.tally c.loop-trace.trace c.code_of_one.result
          c.loop-trace.invariant.admitted block whole past fed;
    }

pub unreachable-requires : goal.unreachable-requires
unreachable-requires g c =
    not_past_limit c.args.job.now c.args.goal _ _ c.loop-trace.admit.tally c.loop-trace.trace c.loop-trace.invariant.admitted c.loop-trace.invariant.many (omega arith) (omega arith)
