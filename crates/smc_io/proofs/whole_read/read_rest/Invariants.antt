use Rattle.std.proofs.Common.{◌≡◌, ◌+◌, ◌-◌, ◌≤◌, vec_len}
use Rattle.std.specs.Io.KnownBytes.{Consumes}
use Rattle.smc_io.proofs.whole_read.read_rest.Given as goal

-- the bytes so far were taken, they are within the limit, and no call failed
abbrev pub invariant-loop-bytes : goal.invariant-loop-bytes
invariant-loop-bytes g l = record {
  within : vec_len l.bytes ≤ l.limit;
  taken : Consumes (g.S.Source.rest l.initial.source) (g.S.Source.rest l.source) l.bytes.items;
  kept : g.S.Source.faults l.source ≡ g.S.Source.faults l.initial.source;
  files : g.S.Source.files l.source ≡ g.S.Source.files l.initial.source;
  opens : g.S.Source.opens l.source ≡ g.S.Source.opens l.initial.source;
  opened : g.S.Source.opened l.source ≡ g.S.Source.opened l.initial.source;
}

abbrev pub decreases-loop-bytes : goal.decreases-loop-bytes
decreases-loop-bytes g l = l.limit + 1 - vec_len l.bytes
