use Rattle.std.proofs.Common.{rules, ap, cond, ◌∙◌, ◌+◌, bytes_eq}
use Rattle.std.specs.Prelude.{Some}
use Rattle.indexmap.specs.IndexMap.{get}
use Rattle.prism_names.proofs.NameLemmas.{one_more, counted_more}
use Rattle.prism_names.proofs.repeated.count_names.Goals as goal

pub loop-name-preserved : goal.loop-name-preserved
loop-name-preserved c =
    let before = c.unwrap_or-before.result in
    counted_more _ _ c.name-item.result.now (get bytes_eq c.loop-name.counts) (get bytes_eq c.insert.new.self) before
    (one_more (λ name. name.now) c.args.names.now c.loop-name.name-index c.name-item.result c.loop-name-test.true c.name-item.is) c.loop-name.invariant
    (search rules)
    (λ q. (c.in_ok-insert.ensures.updates).0 q ∙ ap (λ z. cond (bytes_eq z q) (Some (before + 1)) (get bytes_eq c.loop-name.counts q)) c.in_ok-copy.ensures)
