use Rattle.std.proofs.Common.{◌≡◌, map, take}
use Rattle.std.specs.Prelude.{filter}
use Rattle.typecheck.specs.Parts.{has_action}
use Rattle.typecheck.proofs.actions.modules_with.Given as goal

-- the modules of the commands so far with the action
abbrev pub invariant-loop-act : goal.invariant-loop-act
invariant-loop-act l = l.modules.items ≡ map (λ act. act.module) (filter (has_action l.number) (take l.act-index l.acts))
