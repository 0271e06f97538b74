-- The row that is kept says what is so.
use Rattle.std.proofs.Common.{refl}
use Rattle.one_trace.proofs.KnownLemmas.{known_written}
use Rattle.one_trace.proofs.known.Known.keep.Goals as goal

pub returns-clause-known : goal.returns-clause-known
returns-clause-known c = λ job state known at is.
    known_written job c.args.self.now _ c.args.number state c.args.row refl refl at is known
