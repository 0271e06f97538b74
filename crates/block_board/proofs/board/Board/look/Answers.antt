use Rattle.std.proofs.Common.{◌≡◌, ℕ, ◌+◌, ◌-◌, ◌++◌, Some, arith, ap, ◌∙◌, subst}
use Rattle.std.specs.Prelude.{Contains}
use Rattle.block_board.specs.declared.view.View.{View}
use Rattle.block_board.specs.Identity.{BoardFacts}
use Rattle.block_board.proofs.OpenLemmas.{same_table, inside_view}
use Rattle.block_board.proofs.TellsLemmas.{looking}
use Rattle.block_board.proofs.board.Board.look.Goals.{then-code-eq0, else-code-eq0}
use Rattle.block_board.proofs.board.Board.look.Goals as goal

pub load-code-requires : goal.load-code-requires
load-code-requires c =
    let size = ap (λ (b : BoardFacts). b.blocks) c.self.view_is in
    let below = c.requires.below in (
      same_table _ _ _ _ _ _ _ c.seat.view_is c.self.view_is c.requires.here,
      omega arith,
      looking c.self.inside.table.shared.key _ _ c.seat.inside.inner.me c.args.block c.seat.invariant.1.some_ticket (omega arith),
    )

pub returns-clause-known : goal.returns-clause-known
returns-clause-known c code known =
    let here : c.args.block ≡ 2 + c.args.block - 2 = omega arith in
    let inside = inside_view (λ (v : View). Contains (v.seen ++ v.published) (c.args.block, code)) _ _ _ c.seat.view_is known in
    let is = c.load-code.ensures.2.1 code (subst (λ (b : ℕ). Contains (c.seat.inside.inner.me.0.seen ++ c.seat.inside.inner.me.0.published) (b, code)) here inside) in
    let filled = is.1 in
    elim c.if-code-eq0.branch [
      | then-code-eq0 w ↦ absurd (let none = w.if-code-eq0.true in omega arith)
      | else-code-eq0 w ↦ w.result-is ∙ ap (λ (z : ℕ). Some z) is.0
    ]
