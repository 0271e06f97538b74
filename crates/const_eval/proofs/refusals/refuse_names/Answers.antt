use Rattle.std.proofs.Common.{bytes_eq, is_some}
use Rattle.indexmap.specs.IndexMap.{get}
use Rattle.const_eval.proofs.TableLemmas.{sorts_are, known_are}
use Rattle.const_eval.proofs.RefusalLemmas.{undefined_told, unknown_told, twice_told}
use Rattle.const_eval.proofs.refusals.refuse_names.Goals as goal

pub returns-in-Err : goal.returns-in-Err
returns-in-Err c =
    record {
      passed = tt;
      refused = undefined_told c.args.consts.now c.args.given.now (get bytes_eq c.args.table.now) (get bytes_eq c.args.sorts.now) (λ name. is_some (get bytes_eq c.args.sorts.now name))
          (λ j name. c.requires.table name j) (sorts_are c.args.consts.now c.args.sorts.now c.requires.sorts) (known_are c.args.consts.now c.args.sorts.now c.requires.sorts)
          c.in-Err.told c.in-Err.ensures.told;
    }

pub returns-in-Err-refuse_unknown-clause-refused : goal.returns-in-Err-refuse_unknown-clause-refused
returns-in-Err-refuse_unknown-clause-refused c =
    unknown_told c.args.consts.now c.args.given.now (get bytes_eq c.args.table.now) (get bytes_eq c.args.sorts.now) (λ name. is_some (get bytes_eq c.args.sorts.now name))
    (λ j name. c.requires.table name j) (sorts_are c.args.consts.now c.args.sorts.now c.requires.sorts) (known_are c.args.consts.now c.args.sorts.now c.requires.sorts)
    c.in-Err-refuse_unknown.told c.in-Ok.ensures.none c.in-Err-refuse_unknown.ensures.told

pub returns-in-Err-refuse_given_twice-clause-refused : goal.returns-in-Err-refuse_given_twice-clause-refused
returns-in-Err-refuse_given_twice-clause-refused c =
    twice_told c.args.consts.now c.args.given.now (get bytes_eq c.args.table.now) (get bytes_eq c.args.sorts.now) (λ name. is_some (get bytes_eq c.args.sorts.now name))
    (λ j name. c.requires.table name j) (sorts_are c.args.consts.now c.args.sorts.now c.requires.sorts) (known_are c.args.consts.now c.args.sorts.now c.requires.sorts)
    c.in-Err-refuse_given_twice.told c.in-Ok.ensures.none c.in-Ok-refuse_unknown.ensures.none c.in-Err-refuse_given_twice.ensures.told
