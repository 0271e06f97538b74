use Rattle.std.proofs.Common.{bytes_eq, unwrap_or, cond, ap, ◌∙◌}
use Rattle.std.specs.Prelude.{Some}
use Rattle.indexmap.specs.IndexMap.{get}
use Rattle.module_expand.specs.Times.{never}
use Rattle.module_expand.proofs.CountLemmas.{adds_times}
use Rattle.module_expand.proofs.repeated.count.Goals as goal

pub returns : goal.returns
returns c =
    let copy = c.in_ok-copy.ensures in
    let more = c.more_times.ensures in
    adds_times (get bytes_eq c.args.counts.now) (get bytes_eq c.insert.new.self) c.args.kind c.args.name.now c.args.more
    c.unwrap_or-before.result
    (c.unwrap_or-before.ensures ∙ ap (λ o. unwrap_or o never) (c.copied.ensures ∙ c.get.ensures.value))
    (λ n. (c.in_ok-insert.ensures.updates).0 n
    ∙ (λ j. cond (bytes_eq (copy j) n) (Some (more j)) (get bytes_eq c.args.counts.now n)))
