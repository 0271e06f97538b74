use Rattle.std.proofs.Common.{rules, ◌≡◌, ℕ, ◌+◌, List, replicate, set, ap, ◌∙◌}
use Rattle.block_board.specs.Counts.{no_stop}
use Rattle.block_board.proofs.CloseLemmas.{opens_with}
use Rattle.block_board.proofs.board.Board.new.Goals as goal

pub of_words-requires : goal.of_words-requires
of_words-requires c =
    let zeros : c.in_ok-words.words.items ≡ replicate (c.args.blocks + 2) 0 = search rules in
    let is : c.as_slice.result.now ≡ set (replicate (c.args.blocks + 2) 0) 1 no_stop = c.as_slice.ensures.value ∙ ap (λ (ws : List ℕ). set ws 1 no_stop) zeros in
    let blocks = c.requires.blocks in
    let workers = c.requires.workers in
    opens_with c.args.blocks c.args.workers c.as_slice.result.now (record { some_block = blocks.0; most_blocks = blocks.1; some_worker = workers.0; most_workers = workers.1 }) is
