-- What contracts see of a board and of a seat.
use Rattle.std.specs.Prelude.{◌≡◌, ℕ}
use Rattle.atomic_table.specs.Seated.{TableId}
use Rattle.block_board.specs.declared.view.View.{View}

-- a board: what no other board has in common with it, and its size
pub record BoardFacts : Type 0 where
  pub id : TableId
  pub blocks : ℕ
  pub workers : ℕ

-- a seat: of which board it is, and its view
pub record SeatFacts : Type 0 where
  pub board : TableId
  pub view : View

-- the seat is one of this board's
pub record IsSeatOf (board : BoardFacts) (seat : SeatFacts) : Type 0 where
  pub same : seat.board ≡ board.id
  pub blocks : seat.view.blocks ≡ board.blocks
  pub workers : seat.view.workers ≡ board.workers
