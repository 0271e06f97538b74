use Rattle.std.proofs.Common.{◌≡◌, take}
use Rattle.typecheck.specs.Parts.{made_actions}
use Rattle.typecheck.proofs.actions.made_actions.Given as goal

-- the actions so far
abbrev pub invariant-loop-number : goal.invariant-loop-number
invariant-loop-number l = l.actions ≡ made_actions l.acts (take l.number l.names.keys)
