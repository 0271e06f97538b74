-- After so many squarings the number is that of the lower run.
use Rattle.std.proofs.Common.{◌≡◌}
use Rattle.log_bracket.specs.Bracket.{lower_run}
use Rattle.log_bracket.proofs.bounds.squared_from_below.Given as goal

abbrev pub invariant-loop-done : goal.invariant-loop-done
invariant-loop-done l = l.run ≡ lower_run l._done l.fn.start
