use Rattle.std.proofs.Common.{◌<◌, arith}
use Rattle.block_board.specs.declared.view.View.{View}
use Rattle.block_board.proofs.OpenLemmas.{same_table, inside_view}
use Rattle.block_board.proofs.TellsLemmas.{claiming}
use Rattle.block_board.proofs.board.Board.claim.Goals as goal

pub fetch_add-requires : goal.fetch_add-requires
fetch_add-requires c =
    let ticket = inside_view (λ (v : View). 0 < v.tickets) _ _ _ c.seat.view_is c.requires.ticket in
    (same_table _ _ _ _ _ _ _ c.seat.view_is c.self.view_is c.requires.here, omega arith, claiming c.self.inside.table.shared.key _ _ c.seat.inside.inner.me ticket)
