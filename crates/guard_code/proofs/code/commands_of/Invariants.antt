use Rattle.std.proofs.Common.{◌≡◌, map, take}
use Rattle.chain_model.specs.States.{State}
use Rattle.guard_code.specs.Tests.{IsSmall}
use Rattle.guard_code.specs.Guards.{told_act, told_command}
use Rattle.guard_code.proofs.code.commands_of.Given as goal

-- the commands so far
abbrev pub invariant-loop-act : goal.invariant-loop-act
invariant-loop-act l = (state : State) → IsSmall state → map (told_command state) l.commands ≡ map (told_act state) (take l.act-index l.acts)
