use Rattle.std.proofs.Common.{ℕ, List, map, ap, sym, ◌∙◌, is_some, bytes_eq, Bool}
use Rattle.indexmap.specs.IndexMap.{get}
use Rattle.const_eval.specs.Constants.{definition_names}
use Rattle.const_eval.specs.Refusals.{first_missing}
use Rattle.const_eval.proofs.FirstLemmas.{told_more, told_here}
use Rattle.const_eval.proofs.unknown.first_unread.Goals as goal

pub returns-in-Some : goal.returns-in-Some
returns-in-Some c =
    let known : List ℕ → Bool = λ name. is_some (get bytes_eq c.args.sorts.now name) in
    let read = ap (map (λ name. name.now)) c.as_slice.ensures.value ∙ c.in_ok-read.ensures in
    sym (told_here c.args.consts.now c.loop-constant.constant-index c.constant-item.result c.loop-constant-test.true c.constant-item.is
    (λ d. first_missing known (definition_names d)) c.loop-constant.invariant _ (sym (c.in-Some.ensures ∙ ap (first_missing known) read)))

pub loop-constant-preserved : goal.loop-constant-preserved
loop-constant-preserved c =
    let known : List ℕ → Bool = λ name. is_some (get bytes_eq c.args.sorts.now name) in
    let read = ap (map (λ name. name.now)) c.as_slice.ensures.value ∙ c.in_ok-read.ensures in
    told_more c.args.consts.now c.loop-constant.constant-index c.constant-item.result c.loop-constant-test.true c.constant-item.is
    (λ d. first_missing known (definition_names d)) c.loop-constant.invariant ∙ sym (c.in-None.ensures ∙ ap (first_missing known) read)
