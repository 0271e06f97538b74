use Rattle.std.proofs.Common.{refl}
use Rattle.prism_reading.proofs.TerminalLemmas.{terminal_fails}
use Rattle.prism_reading.proofs.terminals.expect.Goals as goal

pub returns-in-None : goal.returns-in-None
returns-in-None c = (terminal_fails c.in-None.ensures, refl)
