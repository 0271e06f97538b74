use Rattle.block_board.specs.Identity.{IsSeatOf}
use Rattle.block_board.proofs.tests.meet.Given as goal

abbrev pub invariant-turns : goal.invariant-turns
invariant-turns l = IsSeatOf l.board l.seat
