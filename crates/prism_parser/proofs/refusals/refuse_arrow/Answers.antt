use Rattle.std.proofs.Common.{sym}
use Rattle.prism_syntax.specs.Spelling.{spelling_of}
use Rattle.prism_parser.proofs.refusals.refuse_arrow.Goals as goal

pub returns-in-Ok : goal.returns-in-Ok
unfolding spelling_of
returns-in-Ok c = (c.in-Ok.ensures, sym c.place_of.ensures)
