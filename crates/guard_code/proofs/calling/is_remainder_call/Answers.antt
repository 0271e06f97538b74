-- The remainder of two whole numbers.
use Rattle.std.proofs.Common.{arith}
use Rattle.guard_code.proofs.KindLemmas.{remainder_call}
use Rattle.guard_code.proofs.calling.is_remainder_call.Goals as goal

pub returns-in-Mod : goal.returns-in-Mod
returns-in-Mod c = λ whole. record { same = remainder_call c.args.func c.args.parts.now (omega (arith, c.if-parts-ne2.false)) c.in-Mod.is (c.all_whole.ensures whole) }
