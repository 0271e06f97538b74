use Rattle.std.proofs.Common.{rules, arith, ap, sym, ◌∙◌, ◌≡◌, ◌+◌, ℕ, get_or}
use Rattle.std.specs.Mem.Slots.{slots_items}
use Rattle.block_board.specs.declared.view.View.{View}
use Rattle.block_board.specs.Counts.{least_of, code_of}
use Rattle.block_board.specs.Steps.{all_tickets}
use Rattle.block_board.specs.Identity.{BoardFacts, SeatFacts}
use Rattle.block_board.proofs.OpenLemmas.{inside_view}
use Rattle.block_board.proofs.CloseLemmas.{final_stop, final_codes, read_is, copied}
use Rattle.block_board.proofs.board.Board.close.Goals as goal

pub loop-b-preserved : goal.loop-b-preserved
loop-b-preserved c = record {
  room = omega arith;
  long = omega arith;
  full = c.loop-b.invariant.full;
  none = c.loop-b.invariant.none;
  codes = copied (λ (j : ℕ). get_or (slots_items c.close_with-closed.result.words) (2 + j) 0) c.loop-b.codes.items c.push_reserved.new.self.items c.loop-b.b c.word.result
      (search rules) c.push_reserved.ensures.items c.loop-b.invariant.codes (sym (read_is (slots_items c.close_with-closed.result.words) (2 + c.loop-b.b) c.word.result c.word.ensures));
}

pub returns-clause-stop : goal.returns-clause-stop
returns-clause-stop c =
    let crew = c.self.invariant.3 in
    let whole : all_tickets c.seat.inside.inner.me.0 ≡ c.self.inside.table.shared.key.workers =
    inside_view (λ (v : View). all_tickets v ≡ c.args.self.workers) _ _ _ c.seat.view_is c.requires.whole ∙ (sym (ap (λ (b : BoardFacts). b.workers) c.self.view_is) ∙ sym crew) in
    sym (read_is (slots_items c.close_with-closed.result.words) 1 c.word-stop.result c.word-stop.ensures)
    ∙ (final_stop c.self.inside.table.shared.key c.seat.inside.inner.id c.seat.inside.inner.me.0 _ _ c.close_with-closed.ensures.values.2 c.seat.invariant.1.some_ticket whole
    ∙ ap (λ (s : SeatFacts). least_of s.view.lowered) c.seat.view_is)

pub returns-clause-codes : goal.returns-clause-codes
returns-clause-codes c b below =
    let crew = c.self.invariant.3 in
    let whole : all_tickets c.seat.inside.inner.me.0 ≡ c.self.inside.table.shared.key.workers =
    inside_view (λ (v : View). all_tickets v ≡ c.args.self.workers) _ _ _ c.seat.view_is c.requires.whole ∙ (sym (ap (λ (b : BoardFacts). b.workers) c.self.view_is) ∙ sym crew) in
    let size = ap (λ (b : BoardFacts). b.blocks) c.self.view_is in
    let end = c.loop-b.auto.b-end in
    c.loop-b.invariant.codes b (omega arith)
    ∙ (final_codes c.self.inside.table.shared.key c.seat.inside.inner.id c.seat.inside.inner.me.0 _ _ c.close_with-closed.ensures.values.2 c.seat.invariant.1.some_ticket whole b (omega arith)
    ∙ ap (λ (s : SeatFacts). code_of b s.view.published) c.seat.view_is)
