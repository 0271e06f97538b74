use Rattle.std.proofs.Common.{bytes_eq, ap, sym, ◌∙◌}
use Rattle.std.specs.Prelude.{Some}
use Rattle.std.specs.Option.{option_copied}
use Rattle.indexmap.specs.IndexMap.{get}
use Rattle.module_expand.specs.Groups.{stated}
use Rattle.module_expand.specs.Times.{is_counted_twice}
use Rattle.module_expand.proofs.TwiceLemmas.{none_more, found_here, none_all}
use Rattle.module_expand.proofs.repeated.first_counted_twice.Goals as goal

pub loop-group-preserved : goal.loop-group-preserved
loop-group-preserved c =
    none_more (is_counted_twice (get bytes_eq c.args.counts.now)) stated c.args.declared.now
    c.loop-group.group-index c.group-item.result c.loop-group-test.true c.group-item.is c.loop-group.invariant
    (sym c.in_ok-name.ensures ∙ ap option_copied c.in_default.is)

pub returns-in-Some : goal.returns-in-Some
returns-in-Some c =
    ap Some c.in_ok-copy.ensures
    ∙ sym (found_here (is_counted_twice (get bytes_eq c.args.counts.now)) stated c.args.declared.now
    c.loop-group.group-index c.group-item.result c.in-Some.name.now c.loop-group-test.true c.group-item.is
    c.loop-group.invariant (sym c.in_ok-name.ensures ∙ ap option_copied c.in-Some.is))

pub returns : goal.returns
returns c = sym (none_all (is_counted_twice (get bytes_eq c.args.counts.now)) stated
    c.args.declared.now c.loop-group.group-index c.loop-group-test.false c.loop-group.invariant)
