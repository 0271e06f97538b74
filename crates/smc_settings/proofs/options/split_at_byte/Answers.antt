-- The text is cut at the first place of the byte.
use Rattle.std.proofs.lemmas.List.{take_rest}
use Rattle.smc_settings.proofs.PositionLemmas.{found_at, found_nowhere}
use Rattle.smc_settings.proofs.options.split_at_byte.Goals as goal

pub returns-in-None : goal.returns-in-None
returns-in-None c = found_nowhere c.args.byte c.args.text.now c.in-None.ensures

pub returns-in-Some : goal.returns-in-Some
returns-in-Some c = let is = found_at c.args.byte c.args.text.now c.in-Some.at c.in-Some.ensures in (rw take_rest is.cut, is.plain)
