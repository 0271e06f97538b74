-- The first choice is that of one command, or an action's.
use Rattle.std.proofs.Common.{ℕ, ◌+◌, ◌^◌, List, length, min, sym, ap, ◌∙◌}
use Rattle.std.specs.Prelude.{filter, slice_get}
use Rattle.successors.specs.Enabled.{is_enabled}
use Rattle.successors.proofs.PlaceLemmas.{single_here}
use Rattle.successors.proofs.FirstLemmas.{joint_alone, some_first}
use Rattle.successors.proofs.first.first_choice.Goals as goal

pub returns-in-Some-clause-first : goal.returns-in-Some-clause-first
returns-in-Some-clause-first c = λ some.
    let p = is_enabled c.args.lane c.args.enabled.now in
    single_here p c.args.singles.now c.args.actions.now 0 c.in-Some.command c.args.chosen.now
    (some_first (filter p c.args.singles.now) c.in-Some.command (sym c.in-Some.is ∙ c.first_enabled-alone.ensures.first))
    (sym (sym c.in-Some.is ∙ c.first_enabled-alone.ensures.first)) c.requires.some

pub returns-in-None-clause-count : goal.returns-in-None-clause-count
returns-in-None-clause-count c =
    let p = is_enabled c.args.lane c.args.enabled.now in
    c.first_action.ensures.count
    ∙ ap (λ (ls : List (List ℕ)). min (length ls) (2 ^ 48 + 1)) (sym (joint_alone p c.args.singles.now c.args.actions.now (sym c.in-None.is ∙ c.first_enabled-alone.ensures.first)))

pub returns-in-None-clause-first : goal.returns-in-None-clause-first
returns-in-None-clause-first c = λ some.
    let p = is_enabled c.args.lane c.args.enabled.now in
    ap (λ (ls : List (List ℕ)). slice_get ls 0) (joint_alone p c.args.singles.now c.args.actions.now (sym c.in-None.is ∙ c.first_enabled-alone.ensures.first))
    ∙ c.first_action.ensures.first some
