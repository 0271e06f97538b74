use Rattle.std.proofs.Common.{◌+◌, sym, ◌∙◌, not, is_some, bytes_eq}
use Rattle.indexmap.specs.IndexMap.{get}
use Rattle.prism_names.proofs.NameLemmas.{one_more, none_more, found_first, mapped_parts}
use Rattle.const_eval.proofs.unknown.first_missing.Goals as goal

pub returns-then-is_missing : goal.returns-then-is_missing
returns-then-is_missing c =
    sym (found_first (λ name. not (is_some (get bytes_eq c.args.sorts.now name))) _ _ _ _ _
    (one_more (λ name. name.now) c.args.names.now c.loop-name.name-index c.name-item.result c.loop-name-test.true c.name-item.is)
    (mapped_parts (λ name. name.now) c.args.names.now (c.loop-name.name-index + 1)) c.loop-name.invariant (sym c.is_missing.ensures ∙ c.if-is_missing.true))

pub loop-name-preserved : goal.loop-name-preserved
loop-name-preserved c =
    none_more (λ name. not (is_some (get bytes_eq c.args.sorts.now name))) _ _ _
    (one_more (λ name. name.now) c.args.names.now c.loop-name.name-index c.name-item.result c.loop-name-test.true c.name-item.is) c.loop-name.invariant
    (sym c.is_missing.ensures ∙ c.if-is_missing.false)
