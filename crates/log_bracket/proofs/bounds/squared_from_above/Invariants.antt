-- After so many squarings the number is that of the upper run.
use Rattle.std.proofs.Common.{◌≡◌}
use Rattle.log_bracket.specs.Bracket.{upper_run}
use Rattle.log_bracket.proofs.bounds.squared_from_above.Given as goal

abbrev pub invariant-loop-done : goal.invariant-loop-done
invariant-loop-done l = l.run ≡ upper_run l._done l.fn.start
