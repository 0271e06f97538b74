-- The share is all, or the first draw of the next part is the threshold.
use Rattle.successors.proofs.BranchingLemmas.{by_all, by_first_draw}
use Rattle.successors.proofs.branching.by_share.Goals as goal

pub returns-then-share-whole : goal.returns-then-share-whole
returns-then-share-whole c = λ chain state command weights is read. by_all chain state command weights c.args.share c.args.whole is read c.if-share-whole.true

pub returns : goal.returns
returns c = λ chain state command weights is read.
    c.by_threshold.ensures chain state command
    (by_first_draw c.branch_interval_law.ensures.interval chain state command weights c.args.share c.args.whole c.first_draw.result is read c.first_draw.ensures)
