use Rattle.trace_streams.proofs.DrawLemmas.{draw_at-below}
use Rattle.trace_streams.proofs.bounds.draws_are_words.Goals as goal

pub returns : goal.returns
returns c seed trace place = draw_at-below seed trace place
