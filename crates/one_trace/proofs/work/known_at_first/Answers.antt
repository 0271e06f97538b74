-- Nothing is known at first but the number of a state.
use Rattle.std.proofs.Common.{◌∙◌}
use Rattle.one_trace.proofs.KnownLemmas.{known_none}
use Rattle.one_trace.proofs.work.known_at_first.Goals as goal

pub returns-clause-known : goal.returns-clause-known
returns-clause-known c = λ job fits.
    c.number_of-start.ensures.known job
    (known_none job c.in_ok-known.known c.in_ok-known.ensures.states (c.in_ok-known.ensures.width ∙ fits.long)) fits
