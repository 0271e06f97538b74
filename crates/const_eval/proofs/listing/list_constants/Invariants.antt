use Rattle.std.proofs.Common.{◌≡◌, take, bytes_eq}
use Rattle.std.specs.Prelude.{None}
use Rattle.indexmap.specs.IndexMap.{get}
use Rattle.const_eval.specs.Evaluating.{by_table}
use Rattle.const_eval.specs.Refusals.{first_fault}
use Rattle.const_eval.specs.Listing.{listed_consts, listed_results}
use Rattle.const_eval.proofs.listing.list_constants.Given as goal

-- the constants so far, none of which has a fault
abbrev pub invariant-loop-constant : goal.invariant-loop-constant
invariant-loop-constant l = record {
  listed : l.known.entries ≡ listed_consts (by_table (get bytes_eq l.values)) (take l.constant-index l.consts);
  none : first_fault (listed_results (by_table (get bytes_eq l.values)) (take l.constant-index l.consts)) ≡ None;
}
