use Rattle.std.proofs.Common.{bytes_eq, count_by, take, is_some, refl, sym, ap, ◌∙◌, ◌+◌, cond, rules, subst}
use Rattle.std.specs.List.{filter_map}
use Rattle.std.proofs.lemmas.List.{take_all}
use Rattle.std.specs.Prelude.{Some, None}
use Rattle.std.specs.Option.{option_or}
use Rattle.indexmap.specs.IndexMap.{get}
use Rattle.module_expand.specs.Renamed.{right_of}
use Rattle.module_expand.specs.Duplicates.{values}
use Rattle.module_expand.specs.Times.{Adds}
use Rattle.module_expand.proofs.FirstLemmas.{found_more}
use Rattle.module_expand.proofs.FoundLemmas.{some_copied}
use Rattle.module_expand.proofs.CountLemmas.{adds_nothing, new_name_counted}
use Rattle.module_expand.proofs.repeated.count_new_names.Goals as goal

pub loop-left-init : goal.loop-left-init
loop-left-init c = (search rules, adds_nothing (get bytes_eq c.args.counts.now) c.args.source.now)

pub loop-left-preserved : goal.loop-left-preserved
loop-left-preserved c =
    let pairs = c.args.pairs.now in
    let i = c.loop-left.left-index in
    let pair = c.loop-left-item.result in
    let names = get bytes_eq c.loop-left.names in
    let invariant = c.loop-left.invariant in (
      λ n. c.in_ok-count_new_name.ensures.named n
          ∙ (ap (λ o. option_or o (cond (bytes_eq pair.0 n) (Some pair.1) None)) (invariant.0 n)
          ∙ sym (found_more (λ p. p.1) (λ p. bytes_eq p.0 n) pairs i pair c.loop-left-test.true c.loop-left-item.is)),
      new_name_counted (right_of (take i pairs)) (right_of (take (i + 1) pairs)) pair.0 pair.1
          (cond (is_some (names pair.0)) 0 (count_by (λ other. bytes_eq other pair.0) c.args.source.now))
          (is_some (names pair.0)) c.args.source.now
          (get bytes_eq c.args.counts.now) (get bytes_eq c.loop-left.counts) (get bytes_eq c.count_new_name.new.counts)
          (λ n. found_more (λ p. p.1) (λ p. bytes_eq p.0 n) pairs i pair c.loop-left-test.true c.loop-left-item.is)
          (sym (some_copied (names pair.0)) ∙ ap is_some (invariant.0 pair.0))
          refl invariant.1 c.in_ok-count_new_name.ensures.counted,
    )

pub returns : goal.returns
returns c = subst (λ ps. Adds (get bytes_eq c.args.counts.now) (get bytes_eq c.loop-left.counts)
    (values (filter_map (right_of ps) c.args.source.now)))
    (take_all c.loop-left.left-index c.args.pairs.now c.loop-left-test.false) c.loop-left.invariant.1
