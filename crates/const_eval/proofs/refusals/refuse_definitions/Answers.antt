use Rattle.std.proofs.Common.{bytes_eq, is_some}
use Rattle.indexmap.specs.IndexMap.{get}
use Rattle.name_graph.specs.Graph.{HasNoCycle}
use Rattle.name_graph.proofs.GraphLemmas.{orders_have_no_cycle}
use Rattle.const_eval.specs.Constants.{uses_of}
use Rattle.const_eval.proofs.TableLemmas.{sorts_are, known_are}
use Rattle.const_eval.proofs.RefusalLemmas.{cycle_told, sort_told}
use Rattle.const_eval.proofs.refusals.refuse_definitions.Goals as goal

pub returns-in-Err-clause-refused : goal.returns-in-Err-clause-refused
returns-in-Err-clause-refused c =
    cycle_told c.args.consts.now c.args.given.now (get bytes_eq c.args.table.now) (get bytes_eq c.args.sorts.now) (λ name. is_some (get bytes_eq c.args.sorts.now name))
    (λ j name. c.requires.table name j) (sorts_are c.args.consts.now c.args.sorts.now c.requires.sorts) (known_are c.args.consts.now c.args.sorts.now c.requires.sorts)
    c.in-Err.told c.requires.passed.undefined c.requires.passed.unknown c.requires.passed.twice c.in-Err.ensures.told

pub returns-in-Err-refuse_wrong_type-clause-refused : goal.returns-in-Err-refuse_wrong_type-clause-refused
returns-in-Err-refuse_wrong_type-clause-refused c =
    let acyclic : HasNoCycle (uses_of c.args.consts.now) = orders_have_no_cycle (uses_of c.args.consts.now) c.in-Ok.order.items c.in-Ok.ensures.order in
    sort_told c.args.consts.now c.args.given.now (get bytes_eq c.args.table.now) (get bytes_eq c.args.sorts.now) (λ name. is_some (get bytes_eq c.args.sorts.now name))
    (λ j name. c.requires.table name j) (sorts_are c.args.consts.now c.args.sorts.now c.requires.sorts) (known_are c.args.consts.now c.args.sorts.now c.requires.sorts)
    c.in-Err-refuse_wrong_type.told c.requires.passed.undefined c.requires.passed.unknown c.requires.passed.twice acyclic c.in-Err-refuse_wrong_type.ensures.told
