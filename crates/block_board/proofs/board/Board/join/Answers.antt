use Rattle.std.proofs.Common.{arith}
use Rattle.block_board.proofs.OpenLemmas.{same_table}
use Rattle.block_board.proofs.TellsLemmas.{joining}
use Rattle.block_board.proofs.board.Board.join.Goals as goal

pub join_seat-requires : goal.join_seat-requires
join_seat-requires c = (
  same_table _ _ _ _ _ _ _ c.seat.view_is c.self.view_is c.requires.here,
  same_table _ _ _ _ _ _ _ c.other.view_is c.self.view_is c.requires.other_here,
  c.other.invariant.0,
  omega arith,
  joining c.self.inside.table.shared.key c.seat.inside.inner.id c.seat.inside.inner.me.0 c.other.inside.inner.id c.other.inside.inner.me.0 c.seat.invariant.1.some_ticket c.other.invariant.1.some_ticket,
)
