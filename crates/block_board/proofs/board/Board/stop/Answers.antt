use Rattle.std.proofs.Common.{arith}
use Rattle.block_board.proofs.OpenLemmas.{same_table}
use Rattle.block_board.proofs.TellsLemmas.{stopping}
use Rattle.block_board.proofs.board.Board.stop.Goals as goal

pub load-requires : goal.load-requires
load-requires c = (same_table _ _ _ _ _ _ _ c.seat.view_is c.self.view_is c.requires.here, omega arith, stopping c.self.inside.table.shared.key _ _ c.seat.inside.inner.me c.seat.invariant.1.some_ticket)
