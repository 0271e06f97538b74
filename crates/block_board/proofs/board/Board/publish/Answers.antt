use Rattle.std.proofs.Common.{◌≡◌, ◌<◌, arith}
use Rattle.block_board.specs.declared.view.View.{View}
use Rattle.block_board.specs.Counts.{times, pairs_of}
use Rattle.block_board.proofs.OpenLemmas.{same_table, inside_view, claimed_block}
use Rattle.block_board.proofs.TellsLemmas.{publishing}
use Rattle.block_board.proofs.board.Board.publish.Goals as goal

pub overflow_add-block : goal.overflow_add-block
overflow_add-block c =
    let below = claimed_block _ _ _ _ _ c.args.block _ _ c.seat.view_is c.self.view_is c.requires.here c.seat.invariant.1 c.requires.claimed in
    omega arith

pub store-requires : goal.store-requires
store-requires c =
    let below = claimed_block _ _ _ _ _ c.args.block _ _ c.seat.view_is c.self.view_is c.requires.here c.seat.invariant.1 c.requires.claimed in
    let mine = inside_view (λ (v : View). 0 < times c.args.block v.claims) _ _ _ c.seat.view_is c.requires.claimed in
    let fresh = inside_view (λ (v : View). pairs_of c.args.block v.published ≡ 0) _ _ _ c.seat.view_is c.requires.unpublished in (
      same_table _ _ _ _ _ _ _ c.seat.view_is c.self.view_is c.requires.here,
      omega arith,
      publishing c.self.inside.table.shared.key _ _ c.seat.inside.inner.me c.args.block c.args.code c.seat.invariant.1.some_ticket mine fresh c.requires.marked,
    )
