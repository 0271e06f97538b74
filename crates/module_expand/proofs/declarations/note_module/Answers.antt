use Rattle.std.proofs.Common.{◌++◌, ap, ◌∙◌}
use Rattle.std.specs.List.{flat_map}
use Rattle.std.proofs.lemmas.Result.{on_ok_weaker}
use Rattle.module_expand.specs.Groups.{stated}
use Rattle.module_expand.proofs.GroupLemmas.{stated_after, of_source, of_no_source}
use Rattle.module_expand.proofs.declarations.note_module.Goals as goal

pub returns-in-Some : goal.returns-in-Some
returns-in-Some c = on_ok_weaker c.note_copies.result
    (λ made. stated_after (flat_map stated c.args.all.now.items) (flat_map stated c.note-in-Renamed.new.all.items)
    (flat_map stated c.note_copies.new.all.items) _ _ c.in_ok-note-in-Renamed.ensures made
    ∙ ap (λ z. flat_map stated c.args.all.now.items ++ z)
    (of_source c.args.modules.now c.args.item.now c.in-Renamed.name c.in-Renamed.from c.in-Renamed.pairs
    c.as_slice-in-Some.result.now c.in-Some.source.now c.in-Renamed.is c.as_slice-in-Some.ensures
    (c.in-Some.ensures c.args.modules.now c.requires.sources c.requires.names)))
    c.note_copies.ensures

pub returns-in-None : goal.returns-in-None
returns-in-None c = c.in_ok-note-in-Renamed.ensures
    ∙ ap (λ z. flat_map stated c.args.all.now.items ++ z)
    (of_no_source c.args.modules.now c.args.item.now c.in-Renamed.name c.in-Renamed.from c.in-Renamed.pairs
    c.in-Renamed.is (c.in-None.ensures c.args.modules.now c.requires.sources c.requires.names))
