use Rattle.std.proofs.Common.{ℕ, arith, length-take}
use Rattle.smc_io.proofs.BytesLemmas.{TakesAtMost-more}
use Rattle.smc_io.proofs.whole_read.read_rest.Goals as goal

-- the last piece was at most one byte longer than what was left of the limit
pub returns-in-Ok-clause-taken : goal.returns-in-Ok-clause-taken
returns-in-Ok-clause-taken g c =
    TakesAtMost-more _ _ _ c.loop-bytes.bytes.items c.read.new.into c.in-Ok.count _ c.loop-bytes.invariant.taken c.in-Ok.ensures.rest (omega (arith, length-take {A = ℕ}, c.in-Ok.ensures.count))

-- the piece for which there was no memory was within the limit
pub returns-in-Err-extend_from_slice-clause-taken : goal.returns-in-Err-extend_from_slice-clause-taken
returns-in-Err-extend_from_slice-clause-taken g c =
    TakesAtMost-more _ _ _ c.loop-bytes.bytes.items c.read.new.into c.in-Ok-2.count _ c.loop-bytes.invariant.taken c.in-Ok-2.ensures.rest (omega (arith, length-take {A = ℕ}, c.in-Ok-2.ensures.count))
