use Rattle.std.proofs.Common.{sym, ap, ◌∙◌}
use Rattle.std.specs.Option.{option_copied}
use Rattle.module_expand.proofs.FirstLemmas.{not_none}
use Rattle.module_expand.proofs.OrderLemmas.{got_item}
use Rattle.module_expand.proofs.TotalLemmas.{size-written_at, size-renamed_at, size-missing_at}
use Rattle.module_expand.proofs.totals.size_of_module.Goals as goal

pub returns-in-Some-Written : goal.returns-in-Some-Written
returns-in-Some-Written c = λ by m sizes at. size-written_at c.args.modules.now by c.args.each.now c.args.place m
    c.in-Some-Written.field-0.now
    c.in-Some-Written.field-0-0 c.in-Some-Written.field-0-1 c.in-Some-Written.field-0-2 c.size_at.result sizes at
    (sym (got_item c.args.modules.now c.args.place c.get.result c.get.ensures.lookup.2 c.get.ensures.lookup.3)
    ∙ ap option_copied c.in-Some-Written.is)
    c.in-Some-Written.field-0-is c.size_at.ensures

pub returns-in-Some : goal.returns-in-Some
returns-in-Some c = λ by m sizes at. size-renamed_at c.args.modules.now by c.args.each.now c.args.place
    c.in-Some.found.now m c.in-Some-Renamed.field-0.now
    c.in-Some-Renamed.field-0-0 c.in-Some-Renamed.source c.in-Some-Renamed.field-0-2 c.size_at-in-Some.result sizes at
    (sym (got_item c.args.modules.now c.args.place c.get.result c.get.ensures.lookup.2 c.get.ensures.lookup.3)
    ∙ ap option_copied c.in-Some-Renamed.is)
    c.in-Some-Renamed.field-0-is (sym (c.requires c.in-Some-Renamed.source) ∙ sym c.in-Some.ensures.value)
    c.size_at-in-Some.ensures

pub returns-in-None-get : goal.returns-in-None-get
returns-in-None-get c = λ by m sizes at. size-missing_at c.args.modules.now by c.args.place m
    c.in-Some-Renamed.field-0.now
    c.in-Some-Renamed.field-0-0 c.in-Some-Renamed.source c.in-Some-Renamed.field-0-2 c.none.result at
    (sym (got_item c.args.modules.now c.args.place c.get.result c.get.ensures.lookup.2 c.get.ensures.lookup.3)
    ∙ ap option_copied c.in-Some-Renamed.is)
    c.in-Some-Renamed.field-0-is (sym (c.requires c.in-Some-Renamed.source) ∙ sym c.in-None-get.ensures.value)
    c.none.ensures

pub returns-in-None : goal.returns-in-None
returns-in-None c = λ by m sizes at. absurd (not_none m (sym at
    ∙ (sym (got_item c.args.modules.now c.args.place c.get.result c.get.ensures.lookup.2 c.get.ensures.lookup.3)
    ∙ ap option_copied c.in-None.is)))
