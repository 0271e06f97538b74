use Rattle.std.proofs.Common.{map, take, rules, ◌+◌, bytes_eq}
use Rattle.indexmap.specs.IndexMap.{get}
use Rattle.module_expand.proofs.CountLemmas.{name_counted}
use Rattle.module_expand.proofs.FoundLemmas.{mapped_one}
use Rattle.module_expand.proofs.variable_names.count_names.Goals as goal

pub loop-variable-preserved : goal.loop-variable-preserved
loop-variable-preserved c =
    let item = c.variable-item.result in
    let i = c.loop-variable.variable-index in
    name_counted (map (λ v. v.name) (take i c.args.variables.now)) (map (λ v. v.name) (take (i + 1) c.args.variables.now))
    item.name (get bytes_eq c.loop-variable.times) (get bytes_eq c.put.new.table) c.unwrap_or-before.result
    (mapped_one (λ v. v.name) c.args.variables.now i item c.loop-variable-test.true c.variable-item.is)
    c.loop-variable.invariant (search rules)
    c.in_ok-put.ensures
