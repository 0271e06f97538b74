use Rattle.std.proofs.Common.{bytes_eq, sym, subst}
use Rattle.std.proofs.lemmas.Result.{on_ok_weaker}
use Rattle.indexmap.specs.IndexMap.{get}
use Rattle.module_expand.specs.Groups.{stated}
use Rattle.module_expand.specs.Times.{Adds}
use Rattle.module_expand.proofs.CountLemmas.{adds_one}
use Rattle.module_expand.proofs.repeated.count_group.Goals as goal

pub returns-in-One : goal.returns-in-One
returns-in-One c =
    let old = get bytes_eq c.args.counts.now in
    let new = get bytes_eq c.count.new.counts in
    on_ok_weaker c.count.result (λ made. subst (λ g. Adds old new (stated g)) (sym c.in-One.is)
    (adds_one old new (c.in-One.kind, c.in-One.name.now) made)) c.count.ensures
