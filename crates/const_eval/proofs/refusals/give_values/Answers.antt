use Rattle.std.proofs.Common.{bytes_eq, is_some}
use Rattle.indexmap.specs.IndexMap.{get}
use Rattle.name_graph.specs.Graph.{HasNoCycle}
use Rattle.name_graph.proofs.GraphLemmas.{orders_have_no_cycle}
use Rattle.const_eval.specs.Evaluating.{by_table}
use Rattle.const_eval.specs.Constants.{uses_of}
use Rattle.const_eval.proofs.TableLemmas.{sorts_are, known_are}
use Rattle.const_eval.proofs.RefusalLemmas.{listed_values, listed_accepted, listed_refused}
use Rattle.const_eval.proofs.SortedLemmas.{listed_sorted}
use Rattle.const_eval.proofs.refusals.give_values.Goals as goal

pub returns-in-Ok-clause-values : goal.returns-in-Ok-clause-values
returns-in-Ok-clause-values c =
    listed_values c.args.consts.now c.args.given.now (get bytes_eq c.args.table.now) (get bytes_eq c.args.sorts.now) (λ name. is_some (get bytes_eq c.args.sorts.now name))
    (λ j name. c.requires.table name j) (sorts_are c.args.consts.now c.args.sorts.now c.requires.sorts) (known_are c.args.consts.now c.args.sorts.now c.requires.sorts)
    c.requires.distinct (by_table (get bytes_eq c.in-Ok.values)) c.in-Ok.ensures.valuation c.list_constants.result c.list_constants.ensures.listed c.list_constants.ensures.none

pub returns-in-Ok-clause-accepted : goal.returns-in-Ok-clause-accepted
returns-in-Ok-clause-accepted c =
    let acyclic : HasNoCycle (uses_of c.args.consts.now) = orders_have_no_cycle (uses_of c.args.consts.now) c.args.order.now c.requires.order in
    listed_accepted c.args.consts.now c.args.given.now (get bytes_eq c.args.table.now) (get bytes_eq c.args.sorts.now) (λ name. is_some (get bytes_eq c.args.sorts.now name))
    (λ j name. c.requires.table name j) (sorts_are c.args.consts.now c.args.sorts.now c.requires.sorts) (known_are c.args.consts.now c.args.sorts.now c.requires.sorts)
    c.requires.distinct (by_table (get bytes_eq c.in-Ok.values)) c.in-Ok.ensures.valuation c.list_constants.result c.requires.passed.undefined c.requires.passed.unknown c.requires.passed.twice acyclic c.requires.sorted c.list_constants.ensures.none

pub returns-in-Ok-clause-refused : goal.returns-in-Ok-clause-refused
returns-in-Ok-clause-refused c =
    let acyclic : HasNoCycle (uses_of c.args.consts.now) = orders_have_no_cycle (uses_of c.args.consts.now) c.args.order.now c.requires.order in
    listed_refused c.args.consts.now c.args.given.now (get bytes_eq c.args.table.now) (get bytes_eq c.args.sorts.now) (λ name. is_some (get bytes_eq c.args.sorts.now name))
    (λ j name. c.requires.table name j) (sorts_are c.args.consts.now c.args.sorts.now c.requires.sorts) (known_are c.args.consts.now c.args.sorts.now c.requires.sorts)
    c.requires.distinct (by_table (get bytes_eq c.in-Ok.values)) c.in-Ok.ensures.valuation c.list_constants.result c.requires.passed.undefined c.requires.passed.unknown c.requires.passed.twice acyclic c.requires.sorted c.list_constants.ensures.told

pub returns-in-Ok-clause-sorted : goal.returns-in-Ok-clause-sorted
returns-in-Ok-clause-sorted c =
    let acyclic : HasNoCycle (uses_of c.args.consts.now) = orders_have_no_cycle (uses_of c.args.consts.now) c.args.order.now c.requires.order in
    listed_sorted c.args.consts.now c.args.given.now (get bytes_eq c.args.table.now) (get bytes_eq c.args.sorts.now)
    (λ j name. c.requires.table name j) (sorts_are c.args.consts.now c.args.sorts.now c.requires.sorts)
    c.requires.distinct (by_table (get bytes_eq c.in-Ok.values)) c.in-Ok.ensures.valuation acyclic c.requires.sorted
    c.list_constants.result c.list_constants.ensures.listed c.list_constants.ensures.none
