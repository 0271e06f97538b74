use Rattle.std.proofs.Common.{false, refl}
use Rattle.name_graph.proofs.MarkLemmas.{not_both}
use Rattle.name_graph.proofs.GraphLemmas.{row_is}
use Rattle.name_graph.proofs.RankLemmas.{above_uses}
use Rattle.name_graph.proofs.cycles.is_on_cycle.Goals as goal

pub returns-then-are_below : goal.returns-then-are_below
returns-then-are_below c =
    let row = row_is c.args.graph.now c.args.place _ _ c.requires.inside c.index-graph-place.is c.as_slice.ensures in (
      λ holds. absurd (not_both false holds refl),
      λ way. absurd (above_uses c.args.graph.now c.args.ranks.now c.args.place c.as_slice.result.now c.rank.result
          c.requires.ranked row c.rank.ensures (c.are_below.ensures.0 c.if-are_below.true) way),
    )
