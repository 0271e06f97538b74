-- The choices that are kept for the state are its own.
use Rattle.std.proofs.Common.{sym, subst}
use Rattle.chain_model.specs.States.{State}
use Rattle.successors.specs.Choosing.{AreKnownChoices}
use Rattle.one_trace.proofs.visits.make_step.Goals as goal

pub take_known-requires-clause-known : goal.take_known-requires-clause-known
take_known-requires-clause-known c =
    subst (λ (s : State). AreKnownChoices c.args.job.now.chain s c.in-Some.listed.count c.in-Some.listed.size c.in-Some.commands.now)
    (sym c.deref_mut-2.ensures.value)
    (c.in-Some.ensures c.args.job.now c.args.work.now.known.table.states c.args.work.now.state.items c.requires.work.kept c.requires.numbered)
