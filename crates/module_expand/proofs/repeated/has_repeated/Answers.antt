use Rattle.std.proofs.Common.{bytes_eq, ap, subst, sym, ◌∙◌}
use Rattle.std.specs.Option.{option_to_list}
use Rattle.indexmap.specs.IndexMap.{get}
use Rattle.std.proofs.lemmas.List.{take_all}
use Rattle.std.specs.List.{All}
use Rattle.module_expand.specs.Duplicates.{values}
use Rattle.module_expand.specs.Times.{first_twice}
use Rattle.module_expand.proofs.TwiceLemmas.{GivesNone, all_more, gives_none}
use Rattle.module_expand.proofs.repeated.has_repeated.Goals as goal

pub loop-left-preserved : goal.loop-left-preserved
loop-left-preserved c =
    let counts = get bytes_eq c.args.counts.now in
    let pair = c.loop-left-item.result in
    all_more (GivesNone counts c.args.source.now c.args.pairs.now) c.args.pairs.now c.loop-left.left-index pair
    c.loop-left-test.true c.loop-left-item.is c.loop-left.invariant
    (λ there. ap (λ o. first_twice counts (values (option_to_list o))) (sym (c.requires pair.0))
    ∙ c.gives_repeated.ensures c.if-gives_repeated.false there)

pub returns : goal.returns
returns c = λ _. gives_none (get bytes_eq c.args.counts.now) c.args.source.now c.args.pairs.now
    (subst (All (GivesNone (get bytes_eq c.args.counts.now) c.args.source.now c.args.pairs.now))
    (take_all c.loop-left.left-index c.args.pairs.now c.loop-left-test.false) c.loop-left.invariant)
