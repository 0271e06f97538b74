use Rattle.std.proofs.Common.{◌≡◌, ◌∷◌, [], Some, None, Bool, arith, take, sym, ◌∙◌, nat_lt, add-one, if◌then◌else◌, List, Option}
use Rattle.stop_rules.specs.Codes.{given_in, truths_in, seen_in}
use Rattle.stop_rules.specs.Decision.{end_with}
use Rattle.stop_rules.proofs.ListLemmas.{take_one_more}
use Rattle.stop_rules.proofs.RunLemmas.{past_nothing, past_one_more, ends_here, end_counts, counted_once, past_all, ends_at_fault, seen_of_whole}
use Rattle.stop_rules.proofs.EndLemmas.{is_the_end, has_no_end}
use Rattle.stop_rules.proofs.tally.Tally.feed_code.Goals as goal

pub returns-in-Some-clause-end : goal.returns-in-Some-clause-end
returns-in-Some-clause-end c =
    let truths = truths_in c.args.goal.now.flip c.args.code in
    let rest : List (Option Bool) = if nat_lt (given_in c.args.code) c.args.count then None ∷ [] else [] in
    let ends : Some c.in-Some.end ≡ end_with c.args.goal.now c.loop-position.self (Some c.success_at-truth.result) = sym c.in-Some.is ∙ c.admit.ensures.end in
    is_the_end c.args.goal.now c.args.self.now (seen_in c.args.goal.now.flip c.args.code c.args.count) c.in-Some.end
    (ends_here c.args.goal.now c.args.self.now c.loop-position.self truths c.loop-position.position c.success_at-truth.result rest c.in-Some.end c.loop-position.invariant.past c.success_at-truth.ensures ends)

pub returns-in-Some-clause-ended : goal.returns-in-Some-clause-ended
returns-in-Some-clause-ended c =
    let ends : Some c.in-Some.end ≡ end_with c.args.goal.now c.loop-position.self (Some c.success_at-truth.result) = sym c.in-Some.is ∙ c.admit.ensures.end in
    end_counts c.args.goal.now c.loop-position.self c.admit.new.self c.success_at-truth.result c.in-Some.end ends c.admit.ensures.counts

pub loop-position-preserved : goal.loop-position-preserved
loop-position-preserved c =
    let truths = truths_in c.args.goal.now.flip c.args.code in
    let none : None ≡ end_with c.args.goal.now c.loop-position.self (Some c.success_at-truth.result) = sym c.in_default.is ∙ c.admit.ensures.end in
    record {
      past = rw (add-one, take_one_more c.loop-position.position truths c.success_at-truth.result c.success_at-truth.ensures)
          (past_one_more c.args.goal.now c.args.self.now c.loop-position.self c.admit.new.self (take c.loop-position.position truths) c.success_at-truth.result c.loop-position.invariant.past none c.admit.ensures.counts);
      admitted = let e = counted_once c.success_at-truth.result c.loop-position.self c.admit.new.self c.admit.ensures.counts in omega arith;
    }

pub returns-then-given-count-clause-end : goal.returns-then-given-count-clause-end
returns-then-given-count-clause-end c =
    let given : c.given-given.result ≡ given_in c.args.code = c.given-given.ensures in
    let past = past_all c.args.goal.now c.args.self.now c.loop-position.self c.args.goal.now.flip c.args.code c.loop-position.position (omega arith) c.loop-position.invariant.past in
    is_the_end c.args.goal.now c.args.self.now (seen_in c.args.goal.now.flip c.args.code c.args.count) c.end.result
    (rw c.end.ensures (ends_at_fault c.args.goal.now c.args.self.now c.loop-position.self c.args.goal.now.flip c.args.code c.args.count (omega arith) past))

pub returns-clause-end : goal.returns-clause-end
returns-clause-end c =
    let given : c.given-given.result ≡ given_in c.args.code = c.given-given.ensures in
    let past = past_all c.args.goal.now c.args.self.now c.loop-position.self c.args.goal.now.flip c.args.code c.loop-position.position (omega arith) c.loop-position.invariant.past in
    rw (seen_of_whole c.args.goal.now.flip c.args.code c.args.count (omega arith)) (has_no_end c.args.goal.now c.args.self.now c.loop-position.self (truths_in c.args.goal.now.flip c.args.code) past)

pub returns-clause-past : goal.returns-clause-past
returns-clause-past c =
    let given : c.given-given.result ≡ given_in c.args.code = c.given-given.ensures in
    past_all c.args.goal.now c.args.self.now c.loop-position.self c.args.goal.now.flip c.args.code c.loop-position.position (omega arith) c.loop-position.invariant.past

pub loop-position-init : goal.loop-position-init
loop-position-init c = record { past = past_nothing c.args.goal.now c.args.self.now; admitted = omega arith }
