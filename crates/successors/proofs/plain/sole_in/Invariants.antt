use Rattle.std.proofs.Common.{◌≤◌, take}
use Rattle.std.specs.Prelude.{filter}
use Rattle.successors.specs.Plain.{holds_at, IsCounted}
use Rattle.successors.proofs.plain.sole_in.Given as goal

-- the enabled ones so far are counted
abbrev pub invariant-loop-number : goal.invariant-loop-number
invariant-loop-number l = record {
  counted : IsCounted l.count l.last (filter (holds_at l.guards l.state) (take l.number-index l.numbers));
  within : l.count ≤ l.number-index;
}
