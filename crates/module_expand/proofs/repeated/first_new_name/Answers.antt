use Rattle.std.proofs.Common.{bytes_eq, ap, sym, ◌∙◌}
use Rattle.std.specs.Option.{option_copied, option_to_list}
use Rattle.indexmap.specs.IndexMap.{get}
use Rattle.module_expand.specs.Duplicates.{values}
use Rattle.module_expand.specs.Times.{first_twice, is_counted_twice}
use Rattle.module_expand.proofs.TwiceLemmas.{none_more, found_here, none_all, new_names_each}
use Rattle.module_expand.proofs.repeated.first_new_name.Goals as goal

pub loop-variable-preserved : goal.loop-variable-preserved
loop-variable-preserved c =
    let counts = get bytes_eq c.args.counts.now in
    let names = get bytes_eq c.args.names.now in
    none_more (is_counted_twice counts) (λ v. values (option_to_list (option_copied (names v.name)))) c.args.variables.now
    c.loop-variable.variable-index c.variable-item.result c.loop-variable-test.true c.variable-item.is
    c.loop-variable.invariant
    (ap (λ o. first_twice counts (values (option_to_list o)))
    (sym (ap option_copied (c.copied.ensures ∙ c.get.ensures.value)))
    ∙ (sym c.repeated_value.ensures ∙ ap option_copied c.in_default.is))

pub returns-in-Some : goal.returns-in-Some
returns-in-Some c = λ pairs same.
    let counts = get bytes_eq c.args.counts.now in
    let names = get bytes_eq c.args.names.now in
    sym (ap (first_twice counts) (sym (new_names_each (λ n. option_copied (names n)) pairs c.args.variables.now same))
    ∙ found_here (is_counted_twice counts) (λ v. values (option_to_list (option_copied (names v.name)))) c.args.variables.now
    c.loop-variable.variable-index c.variable-item.result c.in-Some.name.now c.loop-variable-test.true c.variable-item.is
    c.loop-variable.invariant
    (ap (λ o. first_twice counts (values (option_to_list o)))
    (sym (ap option_copied (c.copied.ensures ∙ c.get.ensures.value)))
    ∙ (sym c.repeated_value.ensures ∙ ap option_copied c.in-Some.is)))

pub returns : goal.returns
returns c = λ pairs same.
    let counts = get bytes_eq c.args.counts.now in
    let names = get bytes_eq c.args.names.now in
    sym (ap (first_twice counts) (sym (new_names_each (λ n. option_copied (names n)) pairs c.args.variables.now same))
    ∙ none_all (is_counted_twice counts) (λ v. values (option_to_list (option_copied (names v.name)))) c.args.variables.now
    c.loop-variable.variable-index c.loop-variable-test.false c.loop-variable.invariant)
