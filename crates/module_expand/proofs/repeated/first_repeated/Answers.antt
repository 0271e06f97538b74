use Rattle.std.proofs.Common.{◌≡◌, ◌++◌, bytes_eq, ap, ◌∙◌}
use Rattle.std.specs.List.{flat_map}
use Rattle.std.proofs.lemmas.Result.{IfOk-weaker}
use Rattle.indexmap.specs.IndexMap.{get}
use Rattle.module_expand.specs.Duplicates.{is_repeated}
use Rattle.module_expand.specs.Groups.{stated}
use Rattle.module_expand.specs.Times.{first_twice}
use Rattle.module_expand.proofs.CountLemmas.{same_twice}
use Rattle.module_expand.proofs.TwiceLemmas.{first_where}
use Rattle.module_expand.proofs.repeated.first_repeated.Goals as goal

pub returns : goal.returns
returns c =
    let declared = flat_map stated c.args.declared.now in
    let all = flat_map stated c.args.before.now ++ declared in
    let counts = get bytes_eq c.in_ok-counts.counts in
    IfOk-weaker c.first_counted_twice.result (λ found. found ≡ first_twice counts declared)
    (λ found. found ≡ first_where (is_repeated all) declared)
    (λ found is. is ∙ ap (λ test. first_where test declared) (same_twice counts all c.in_ok-counts.ensures))
    c.first_counted_twice.ensures
