use Rattle.std.proofs.Common.{◌≡◌, Option, bytes_eq, ap, ◌∙◌}
use Rattle.std.specs.Map.{lookup}
use Rattle.std.specs.Prelude.{None}
use Rattle.std.specs.Option.{option_copied}
use Rattle.std.proofs.lemmas.Result.{IfOk-weaker}
use Rattle.indexmap.specs.IndexMap.{get}
use Rattle.prism_names.specs.First.{Name}
use Rattle.module_expand.specs.Renamed.{no_names, copied_module}
use Rattle.module_expand.proofs.flattening.expanded_module.Goals as goal

pub returns : goal.returns
returns c =
    let title = c.args.title.now in
    let from = c.args.from.now in
    let by = get bytes_eq c.args.trees.now in
    let none : Name → Option Name = λ n. option_copied (get bytes_eq c.new-none.result n) in
    let empty : (n : Name) → none n ≡ None =
    λ n. ap option_copied (ap (lookup (bytes_eq n)) c.new-none.ensures.empty) in
    IfOk-weaker c.copy_module.result (λ copy. copy ≡ copied_module none by title from)
    (λ copy. copy ≡ copied_module no_names by title from)
    (λ copy made. made ∙ (λ i. copied_module (λ n. empty n i) by title from)) c.copy_module.ensures
