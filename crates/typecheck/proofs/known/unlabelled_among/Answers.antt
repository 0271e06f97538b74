use Rattle.std.proofs.Common.{not, is_some, ap, sym, ◌∙◌, ◌+◌}
use Rattle.std.specs.Prelude.{Some}
use Rattle.prism_names.proofs.NameLemmas.{one_more, none_more, found_first, mapped_parts}
use Rattle.typed_trees.specs.Scopes.{label_in}
use Rattle.typecheck.proofs.LabelLemmas.{is_some-copied}
use Rattle.typecheck.proofs.known.unlabelled_among.Goals as goal

pub returns-then-is_none : goal.returns-then-is_none
returns-then-is_none c =
    ap Some c.in_ok-copy.ensures ∙ sym (found_first (λ n. not (is_some (label_in c.args.scope.now n))) _ _ _ _ _
    (one_more (λ name. name.now) c.args.names.now c.loop-name.name-index c.name-item.result c.loop-name-test.true c.name-item.is)
    (mapped_parts (λ name. name.now) c.args.names.now (c.loop-name.name-index + 1)) c.loop-name.invariant
    (ap (λ o. not (is_some o)) (sym c.get.ensures.value) ∙ (ap not (is_some-copied c.get.result ∙ c.is_none.ensures) ∙ ap (λ b. not (not b)) c.if-is_none.true)))

pub loop-name-preserved : goal.loop-name-preserved
loop-name-preserved c =
    none_more (λ n. not (is_some (label_in c.args.scope.now n))) _ _ _
    (one_more (λ name. name.now) c.args.names.now c.loop-name.name-index c.name-item.result c.loop-name-test.true c.name-item.is) c.loop-name.invariant
    (ap (λ o. not (is_some o)) (sym c.get.ensures.value) ∙ (ap not (is_some-copied c.get.result ∙ c.is_none.ensures) ∙ ap (λ b. not (not b)) c.if-is_none.false))
