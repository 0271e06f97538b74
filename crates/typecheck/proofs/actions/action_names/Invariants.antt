use Rattle.std.proofs.Common.{◌≡◌, [], take}
use Rattle.std.specs.Prelude.{filter_map}
use Rattle.typecheck.specs.Declarations.{first_appearances}
use Rattle.typecheck.proofs.actions.action_names.Given as goal

-- the names of the actions so far
abbrev pub invariant-loop-command : goal.invariant-loop-command
invariant-loop-command l = l.names.keys ≡ first_appearances [] (filter_map (λ c. c.1.now.action) (take l.command-index l.commands))
