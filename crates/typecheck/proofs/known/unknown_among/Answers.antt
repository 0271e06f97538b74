use Rattle.std.proofs.Common.{arith, ◌≡◌, true, false, not, is_some, ap, sym, ◌∙◌, ◌+◌}
use Rattle.std.specs.Prelude.{Some}
use Rattle.prism_names.proofs.NameLemmas.{one_more, none_more, found_first, mapped_parts}
use Rattle.typed_trees.specs.Scopes.{name_in}
use Rattle.typecheck.proofs.known.unknown_among.Goals as goal

pub returns-then-not-stands : goal.returns-then-not-stands
returns-then-not-stands c =
    let fails : not c.stands.result ≡ true = grind (arith, c.if-not-stands.true) in
    ap Some c.in_ok-copy.ensures ∙ sym (found_first (λ n. not (is_some (name_in c.args.scope.now n))) _ _ _ _ _
    (one_more (λ name. name.now) c.args.names.now c.loop-name.name-index c.name-item.result c.loop-name-test.true c.name-item.is)
    (mapped_parts (λ name. name.now) c.args.names.now (c.loop-name.name-index + 1)) c.loop-name.invariant (ap not (sym c.stands.ensures) ∙ fails))

pub loop-name-preserved : goal.loop-name-preserved
loop-name-preserved c =
    let holds : not c.stands.result ≡ false = grind (arith, c.if-not-stands.false) in
    none_more (λ n. not (is_some (name_in c.args.scope.now n))) _ _ _
    (one_more (λ name. name.now) c.args.names.now c.loop-name.name-index c.name-item.result c.loop-name-test.true c.name-item.is) c.loop-name.invariant
    (ap not (sym c.stands.ensures) ∙ holds)
