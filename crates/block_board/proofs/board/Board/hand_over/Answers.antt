use Rattle.std.proofs.Common.{arith, ap, sym, ◌∙◌}
use Rattle.block_board.specs.Identity.{BoardFacts}
use Rattle.block_board.proofs.TellsLemmas.{splitting}
use Rattle.block_board.proofs.board.Board.hand_over.Goals as goal

pub split_seat-requires : goal.split_seat-requires
split_seat-requires g c = (
  c.requires.here ∙ sym (ap (λ (b : BoardFacts). b.id) c.self.view_is),
  omega arith,
  splitting c.self.inside.table.shared.key c.args.inner.now.id c.args.inner.now.me.0 g.A.Amount.amount (omega (arith, c.requires.amount, c.requires.some)) (omega (arith, c.requires.amount, c.requires.fewer)),
)
