-- The choices that are kept are those of the state.
use Rattle.std.proofs.Common.{◌≡◌, ℕ, ◌*◌, List, length, take, sym, ◌∙◌, ap, subst, arith}
use Rattle.chain_model.specs.States.{State}
use Rattle.successors.specs.Choosing.{AreKnownChoices}
use Rattle.one_trace.specs.Kept.{AreKept}
use Rattle.one_trace.proofs.WorkLemmas.{written_over}
use Rattle.one_trace.proofs.meeting.keep_choice.Goals as goal

pub returns-in-Some-clause-work : goal.returns-in-Some-clause-work
returns-in-Some-clause-work c =
    let count : ℕ = c.in-Some.listed.count in
    let size : ℕ = c.in-Some.listed.size in
    let same : c.deref-in-Some.result.now ≡ c.known_choices.new.chosen =
    c.deref-in-Some.ensures.value
    ∙ written_over c.args.work.now.chosen.len c.known_choices.new.chosen c.args.work.now.chosen.items (omega arith)
    (c.known_choices.auto.chosen ∙ ap length c.deref_mut.ensures.value) in
    let known : AreKnownChoices c.args.job.now.chain c.args.work.now.state.items count size (take (count * size) c.deref-in-Some.result.now) =
    subst (λ (s : State). AreKnownChoices c.args.job.now.chain s count size (take (count * size) c.deref-in-Some.result.now)) c.deref.ensures.value
    (subst (λ (cs : List ℕ). AreKnownChoices c.args.job.now.chain c.deref.result.now count size (take (count * size) cs)) (sym same)
    c.in-Some.ensures.known) in
    let kept : AreKept c.args.job.now c.args.work.now.known.table.states c.keep.new.self =
    c.keep.ensures c.args.job.now c.args.work.now.known.table.states c.args.work.now.state.items c.requires.work.kept c.requires.state known in
    record {
      code = c.requires.work.code;
      stepper = c.in-Some.ensures.stepper;
      known = c.requires.work.known;
      kept = kept;
      initial = c.requires.work.initial;
      starts = c.requires.work.starts;
      start = c.requires.work.start;
      room = c.requires.work.room;
      first = c.requires.work.first;
      second = c.requires.work.second;
    }
