use Rattle.std.proofs.Common.{◌≡◌, ◌+◌, take}
use Rattle.stop_rules.specs.Codes.{truths_in}
use Rattle.stop_rules.specs.Run.{GoesPast}
use Rattle.stop_rules.proofs.tally.Tally.feed_code.Given as goal

-- the run has gone past the traces before this position
abbrev pub invariant-loop-position : goal.invariant-loop-position
invariant-loop-position l = record {
  past : GoesPast l.goal l.fn.self (take l.position (truths_in l.goal.flip l.code)) l.self;
  admitted : l.self.d + l.self.f ≡ l.fn.self.d + l.fn.self.f + l.position;
}
