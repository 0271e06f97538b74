use Rattle.std.proofs.Common.{◌++◌, [], ◌∷◌, map, take, ap, sym, ◌∙◌}
use Rattle.std.specs.List.{filter_map}
use Rattle.std.proofs.lemmas.List.{map_more}
use Rattle.const_eval.specs.Constants.{definition_names}
use Rattle.const_eval.proofs.ResultLemmas.{place_of}
use Rattle.const_eval.proofs.TableLemmas.{row_is}
use Rattle.const_eval.proofs.cycles.uses.Goals as goal

pub loop-constant-preserved : goal.loop-constant-preserved
loop-constant-preserved c =
    let row = row_is c.args.consts.now c.args.sorts.now c.requires.sorts _ _ _ c.constant-item.result c.in_ok-places.ensures (ap (map (λ name. name.now)) c.as_slice.ensures.value) c.in_ok-read.ensures in
    c.in_ok-push.ensures.items
    ∙ ((λ j. c.loop-constant.invariant j ++ (row j ∷ []))
    ∙ sym (map_more (λ d. filter_map (place_of c.args.consts.now) (definition_names d)) c.args.consts.now c.loop-constant.constant-index c.constant-item.result c.loop-constant-test.true
    ∙ ap (λ d. map (λ e. filter_map (place_of c.args.consts.now) (definition_names e)) (take c.loop-constant.constant-index c.args.consts.now) ++ (filter_map (place_of c.args.consts.now) (definition_names d) ∷ []))
    (sym c.constant-item.is)))
