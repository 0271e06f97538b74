use Rattle.std.proofs.Common.{◌≡◌, Option, map, bytes_eq, ap, ◌∙◌}
use Rattle.std.specs.Map.{lookup}
use Rattle.std.specs.Prelude.{None}
use Rattle.std.specs.Option.{option_copied}
use Rattle.std.proofs.lemmas.Result.{IfOk-weaker}
use Rattle.indexmap.specs.IndexMap.{get}
use Rattle.prism_names.specs.First.{Name}
use Rattle.module_expand.specs.Renamed.{no_names, copied_variable}
use Rattle.module_expand.proofs.flattening.flat_variables.Goals as goal

pub returns : goal.returns
returns c =
    let by = get bytes_eq c.args.trees.now in
    let variables = c.args.variables.now in
    let none : Name → Option Name = λ n. option_copied (get bytes_eq c.new-none.result n) in
    let empty : (n : Name) → none n ≡ None =
    λ n. ap option_copied (ap (lookup (bytes_eq n)) c.new-none.ensures.empty) in
    IfOk-weaker c.copy_variables.result (λ flat. flat ≡ map (copied_variable none by) variables)
    (λ flat. flat ≡ map (copied_variable no_names by) variables)
    (λ flat made. made ∙ (λ i. map (copied_variable (λ n. empty n i) by) variables)) c.copy_variables.ensures
