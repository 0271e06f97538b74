use Rattle.std.proofs.Common.{◌∙◌, arith, length-drop, length-take}
use Rattle.smc_io.proofs.BytesLemmas.{Appends-take_more}
use Rattle.smc_io.proofs.whole_write.write_all.Goals as goal

-- the piece goes on where the last one ended
pub loop-start-preserved : goal.loop-start-preserved
loop-start-preserved g c = record {
  within = let taken = simp (length-take, length-drop) at c.in-Ok.ensures.count in omega arith;
  written = Appends-take_more _ _ _ _ _ _ c.loop-start.invariant.written c.in-Ok.ensures.written;
  kept = c.in-Ok.ensures.cause.kept ∙ c.loop-start.invariant.kept;
}
