use Rattle.std.proofs.Common.{◌≡◌, sym, ◌∙◌}
use Rattle.std.specs.Prelude.{Some, position}
use Rattle.std.specs.Option.{option_map}
use Rattle.std.proofs.lemmas.List.Quantifiers.{position-Some}
use Rattle.std.proofs.lemmas.Result.{IfOk-weaker}
use Rattle.module_expand.specs.Flat.{is_written_as}
use Rattle.module_expand.specs.LeftOut.{IsFirstVariable, IsFirstOf}
use Rattle.module_expand.proofs.OrderLemmas.{at_place}
use Rattle.module_expand.proofs.LeftOutLemmas.{first_of_source}
use Rattle.module_expand.proofs.left_out.left_out_by.Goals as goal

pub returns-in-Some : goal.returns-in-Some
returns-in-Some c =
    let modules = c.args.modules.now in
    let place = c.in-Some.place.now in
    let m = c.index-modules-place.result in
    let found : position (is_written_as c.in-Renamed.source) modules ≡ Some place =
    sym (c.requires c.in-Renamed.source) ∙ sym c.in-Some.ensures.value in
    IfOk-weaker c.first_without_pair.result
    (λ told. IsFirstVariable c.variables.result.now c.as_slice.result.now place
    (option_map (λ v. (v.module, v.variable, v.name.now)) told))
    (λ told. IsFirstOf modules c.args.item.now (option_map (λ v. (v.module, v.variable, v.name.now)) told))
    (λ told first. first_of_source modules c.args.item.now m c.in-Renamed.name c.in-Renamed.source c.in-Renamed.pairs
    c.as_slice.result.now place c.variables.result.now
    (option_map (λ v. (v.module, v.variable, v.name.now)) told) c.in-Renamed.is c.as_slice.ensures found
    (at_place modules place m (position-Some (is_written_as c.in-Renamed.source) modules place m found).0
    c.index-modules-place.is) c.variables.ensures first)
    c.first_without_pair.ensures
