use Rattle.std.proofs.Common.{◌≡◌, Option, bytes_eq}
use Rattle.std.specs.Option.{option_copied}
use Rattle.std.proofs.lemmas.Result.{IfOk-weaker, IfOk-at_ok}
use Rattle.indexmap.specs.IndexMap.{get}
use Rattle.prism_names.specs.First.{Name}
use Rattle.module_expand.specs.Renamed.{right_of, as_tree, copied_module}
use Rattle.module_expand.proofs.FlattenLemmas.{same_copy}
use Rattle.module_expand.proofs.flattening.rename_module.Goals as goal

pub returns : goal.returns
returns c =
    let pairs = c.args.pairs.now in
    let title = c.args.title.now in
    let from = c.args.from.now in
    let names : Name → Option Name = λ n. option_copied (get bytes_eq c.in_ok-names.names n) in
    let trees = get bytes_eq c.in_ok-names.trees in
    let named = IfOk-at_ok (λ table. (n : Name)
    → option_copied (get bytes_eq table n) ≡ right_of pairs n) c.in_ok-names.ensures.first c.new_names.ensures in
    let planted = IfOk-at_ok (λ table. (n : Name)
    → get bytes_eq table n ≡ as_tree (right_of pairs) n) c.in_ok-names.ensures.second c.new_trees.ensures in
    IfOk-weaker c.copy_module.result (λ copy. copy ≡ copied_module names trees title from)
    (λ copy. copy ≡ copied_module (right_of pairs) (as_tree (right_of pairs)) title from)
    (λ copy made. same_copy names (right_of pairs) trees (as_tree (right_of pairs))
    title from copy named planted made) c.copy_module.ensures
