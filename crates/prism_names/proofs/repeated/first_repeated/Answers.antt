use Rattle.std.proofs.Common.{ap, sym, ◌∙◌, ◌+◌, nat_lt, unwrap_or, count_by, bytes_eq, map}
use Rattle.prism_names.proofs.NameLemmas.{one_more, none_more, found_first, mapped_parts, is_repeated, is_not_repeated}
use Rattle.prism_names.proofs.repeated.first_repeated.Goals as goal

pub returns-then-unwrap_or-gt1 : goal.returns-then-unwrap_or-gt1
returns-then-unwrap_or-gt1 c =
    let count = c.unwrap_or.ensures ∙ (ap (λ o. unwrap_or o 0) (c.copied.ensures ∙ c.get.ensures.value) ∙ c.in_ok-counts.ensures c.name-item.result.now) in
    sym (found_first (λ n. nat_lt 1 (count_by (λ other. bytes_eq other n) (map (λ name. name.now) c.args.all.now))) _ _ _ _ _
    (one_more (λ name. name.now) c.args.names.now c.loop-name.name-index c.name-item.result c.loop-name-test.true c.name-item.is)
    (mapped_parts (λ name. name.now) c.args.names.now (c.loop-name.name-index + 1)) c.loop-name.invariant (is_repeated c.unwrap_or.result _ count c.if-unwrap_or-gt1.true))

pub loop-name-preserved : goal.loop-name-preserved
loop-name-preserved c =
    let count = c.unwrap_or.ensures ∙ (ap (λ o. unwrap_or o 0) (c.copied.ensures ∙ c.get.ensures.value) ∙ c.in_ok-counts.ensures c.name-item.result.now) in
    none_more (λ n. nat_lt 1 (count_by (λ other. bytes_eq other n) (map (λ name. name.now) c.args.all.now))) _ _ _
    (one_more (λ name. name.now) c.args.names.now c.loop-name.name-index c.name-item.result c.loop-name-test.true c.name-item.is) c.loop-name.invariant
    (is_not_repeated c.unwrap_or.result _ count c.if-unwrap_or-gt1.false)
