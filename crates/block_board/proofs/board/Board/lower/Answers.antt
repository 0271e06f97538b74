use Rattle.std.proofs.Common.{arith}
use Rattle.block_board.proofs.OpenLemmas.{same_table}
use Rattle.block_board.proofs.TellsLemmas.{lowering}
use Rattle.block_board.proofs.board.Board.lower.Goals as goal

pub fetch_min-old-requires : goal.fetch_min-old-requires
fetch_min-old-requires c = (same_table _ _ _ _ _ _ _ c.seat.view_is c.self.view_is c.requires.here, omega arith, lowering c.self.inside.table.shared.key _ _ c.seat.inside.inner.me c.args.block c.seat.invariant.1.some_ticket)
