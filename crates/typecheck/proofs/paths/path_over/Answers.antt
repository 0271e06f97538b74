use Rattle.std.proofs.Common.{◌≤◌, All, length, bytes_eq, rules}
use Rattle.indexmap.specs.IndexMap.{get}
use Rattle.chain_model.specs.declared.values.Sort.TheVariants as sort
use Rattle.chain_model.specs.declared.expressions.Labels.TheVariants.{Refused}
use Rattle.chain_model.specs.Typing.{HasSort}
use Rattle.typecheck.proofs.ChainLemmas.{over-path, over-formed, over-accepted, over-refused}
use Rattle.typecheck.proofs.paths.path_over.Goals as goal

pub returns-clause-path : goal.returns-clause-path
returns-clause-path c =
    let names = c.args.names.now in
    over-path c.args.property.now c.args.consts.now c.args.chain.now (get bytes_eq names.variables) (get bytes_eq names.labels) (get bytes_eq names.nothing)
    c.requires.variables c.requires.labels c.requires.nothing c.typed_property.result c.typed_property.ensures.typed

pub returns-clause-formed : goal.returns-clause-formed
returns-clause-formed c =
    let names = c.args.names.now in
    let few : length c.args.chain.now.vars ≤ 256 = search rules in
    let all : All (λ label. HasSort c.args.chain.now.vars Refused sort.Bool label.1) c.args.chain.now.labels = search rules in
    over-formed c.args.property.now c.args.consts.now c.args.chain.now (get bytes_eq names.variables) (get bytes_eq names.labels) (get bytes_eq names.nothing)
    c.requires.variables c.requires.labels c.requires.nothing c.typed_property.result few all c.typed_property.ensures.typed

pub returns-clause-accepted : goal.returns-clause-accepted
returns-clause-accepted c =
    let names = c.args.names.now in
    over-accepted c.args.property.now c.args.consts.now c.args.chain.now (get bytes_eq names.variables) (get bytes_eq names.labels) (get bytes_eq names.nothing)
    c.requires.variables c.requires.labels c.requires.nothing c.typed_property.result c.typed_property.ensures.accepted

pub returns-clause-refused : goal.returns-clause-refused
returns-clause-refused c =
    let names = c.args.names.now in
    over-refused c.args.property.now c.args.consts.now c.args.chain.now (get bytes_eq names.variables) (get bytes_eq names.labels) (get bytes_eq names.nothing)
    c.requires.variables c.requires.labels c.requires.nothing c.typed_property.result c.typed_property.ensures.refused
