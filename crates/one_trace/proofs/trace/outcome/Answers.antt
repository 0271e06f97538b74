-- A trace starts, and ends by its horizon.
use Rattle.std.proofs.Common.{◌≡◌, ℕ, ◌+◌, ◌<◌, length, refl, sym, ◌∙◌, ap, subst, arith}
use Rattle.trace_streams.specs.Draws.{Place}
use Rattle.chain_model.specs.Paths.{horizon_of}
use Rattle.chain_model.specs.Outcome.{IsOutcome}
use Rattle.chain_model.specs.States.{IsState, initial_of}
use Rattle.one_trace.specs.Visits.{IsUnderwayAt}
use Rattle.one_trace.proofs.UnderwayLemmas.{underway_start}
use Rattle.one_trace.proofs.trace.outcome.Goals as goal

pub loop-step-init : goal.loop-step-init
loop-step-init c =
    let same : c.new-draws.result.trace ≡ c.args.trace = ap (λ (p : Place). p.trace) c.new-draws.ensures in
    record {
      underway = record {
        state = initial_of c.args.job.now.chain;
        here = c.start-number.ensures.state c.args.job.now c.requires;
        underway = underway_start c.args.job.now c.new-draws.result.trace c.new-monitor.result (initial_of c.args.job.now.chain) c.new-draws.result refl
            (subst (IsState c.args.job.now.chain) c.requires.initial c.requires.starts)
            (c.new-draws.ensures ∙ ap (λ (t : ℕ). record { seed = c.args.job.now.seed; trace = t; place = 0 }) (sym same))
            c.new-monitor.ensures.kind c.new-monitor.ensures.seen;
      };
      same = same;
      work = c.start-number.ensures.work c.args.job.now c.requires;
    }

pub loop-step-preserved : goal.loop-step-preserved
loop-step-preserved c = record {
  underway = subst (λ (t : ℕ). IsUnderwayAt c.args.job.now t (c.loop-step.step + 1) c.visit.new.monitor c.visit.new.work.known.table.states c.in-At.next
      c.visit.new.work.state.items c.visit.new.draws) (sym c.visit.ensures.trace) c.in-At.ensures.comes;
  same = c.visit.ensures.trace ∙ c.loop-step.invariant.same;
  work = c.visit.ensures.work;
}

pub returns-in-Settled-clause-outcome : goal.returns-in-Settled-clause-outcome
returns-in-Settled-clause-outcome c =
    subst (λ (t : ℕ). IsOutcome c.args.job.now t c.in-Settled.outcome) c.loop-step.invariant.same c.in-Settled.ensures.comes

pub unreachable-requires : goal.unreachable-requires
unreachable-requires c =
    let underway = c.loop-step.invariant.underway.underway in
    let short : length underway.pairs < horizon_of c.loop-step.monitor.kind + 1 = c.open_law.ensures.short c.loop-step.monitor.kind underway.pairs underway.seen.unsettled in
    let same : horizon_of c.loop-step.monitor.kind ≡ horizon_of c.args.job.now.path.kind = ap horizon_of underway.kind in
    let many = underway.many in
    omega (arith, short, same, many, c.horizon-step-end.ensures, c.loop-step-test.false)
