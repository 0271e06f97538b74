use Rattle.std.proofs.Common.{arith, ap, sym, ◌∙◌}
use Rattle.block_board.specs.Identity.{BoardFacts}
use Rattle.block_board.proofs.TellsLemmas.{reading}
use Rattle.block_board.proofs.board.Board.read_next.Goals as goal

pub load-next-requires : goal.load-next-requires
load-next-requires c = (c.requires.here ∙ sym (ap (λ (b : BoardFacts). b.id) c.self.view_is), omega arith, reading c.self.inside.table.shared.key _ _ c.args.inner.now.me c.requires.live)
