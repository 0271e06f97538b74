use Rattle.std.proofs.Common.{◌≡◌, ◌++◌, map, take, ℕ}
use Rattle.std.specs.Prelude.{flat_map}
use Rattle.std.specs.List.{enumerate_from}
use Rattle.typecheck.specs.Declarations.{commands_of}
use Rattle.prism_syntax.specs.declared.commands.Command.{Command}
use Rattle.typecheck.proofs.listing.list_module_commands.Given as goal

-- those of the modules so far are appended
abbrev pub invariant-loop-number : goal.invariant-loop-number
invariant-loop-number l =
    map {B = ℕ × Command} (λ c. (c.0, c.1.now)) l.list.items
    ≡ map {B = ℕ × Command} (λ c. (c.0, c.1.now)) l.initial.list.items ++ flat_map (λ m. map {B = ℕ × Command} (λ c. (m.0, c)) (commands_of m.1)) (enumerate_from 0 (take l.number l.modules))
