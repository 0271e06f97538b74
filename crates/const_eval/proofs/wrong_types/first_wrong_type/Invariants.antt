use Rattle.std.proofs.Common.{◌≡◌, take, find, not, bytes_eq}
use Rattle.std.specs.Prelude.{None}
use Rattle.indexmap.specs.IndexMap.{get}
use Rattle.const_eval.specs.Tables.{sort_of_word}
use Rattle.const_eval.specs.Constants.{sort_found}
use Rattle.const_eval.specs.Refusals.{is_found_fitting}
use Rattle.const_eval.proofs.wrong_types.first_wrong_type.Given as goal

-- the values so far are of sorts that fit
abbrev pub invariant-loop-constant : goal.invariant-loop-constant
invariant-loop-constant l =
    find (λ c. not (is_found_fitting (sort_of_word c.sort) (sort_found (get bytes_eq l.sorts) (get bytes_eq l.given) c))) (take l.constant-index l.consts) ≡ None
