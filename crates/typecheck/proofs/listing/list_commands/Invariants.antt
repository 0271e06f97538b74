use Rattle.std.proofs.Common.{◌≡◌, ◌++◌, map, take, ℕ}
use Rattle.prism_syntax.specs.declared.commands.Command.{Command}
use Rattle.typecheck.proofs.listing.list_commands.Given as goal

-- those so far are appended
abbrev pub invariant-loop-command : goal.invariant-loop-command
invariant-loop-command l =
    map {B = ℕ × Command} (λ c. (c.0, c.1.now)) l.list.items ≡ map {B = ℕ × Command} (λ c. (c.0, c.1.now)) l.initial.list.items ++ map {B = ℕ × Command} (λ c. (l.owner, c)) (take l.command-index l.commands)
