use Rattle.std.proofs.Common.{◌∷◌, [], ◌++◌, ◌≡◌}
use Rattle.prism_reading.proofs.AnswerLemmas.{passed}
use Rattle.prism_model.proofs.ModuleLemmas.{command_starts, commands_repeat}
use Rattle.prism_model.proofs.StepLemmas.{accepted}
use Rattle.prism_reading.proofs.EachLemmas.{each_onward, next_missing, onward_ended, shorter}
use Rattle.prism_model.proofs.commands.commands.Goals as goal

pub returns-in_err-next : goal.returns-in_err-next
returns-in_err-next c = passed _ _ _ c.in_err-next.field-0.0 c.from_residual.result c.from_residual.ensures.1 c.in_err-next.ensures (λ left none. c.loop-alloc.invariant.none left (next_missing commands_repeat (rw c.loop-alloc-test.true at (accepted _ _ c.accept.result c.is_some.result c.accept.ensures c.is_some.ensures)) none))

pub loop-alloc-smaller : goal.loop-alloc-smaller
loop-alloc-smaller c = shorter command_starts c.in_ok-next.ensures

pub loop-alloc-preserved : goal.loop-alloc-preserved
loop-alloc-preserved c =
    let pushed : c.push.new.self ≡ c.loop-alloc.commands ++ (c.in_ok-next.next ∷ []) = c.in_ok-push.ensures.ok in
    rw pushed (each_onward commands_repeat (rw c.loop-alloc-test.true at (accepted _ _ c.accept.result c.is_some.result c.accept.ensures c.is_some.ensures)) c.loop-alloc.invariant c.in_ok-next.ensures)

pub returns : goal.returns
returns c = onward_ended commands_repeat c.loop-alloc.invariant (rw c.loop-alloc-test.false at (accepted _ _ c.accept.result c.is_some.result c.accept.ensures c.is_some.ensures))
