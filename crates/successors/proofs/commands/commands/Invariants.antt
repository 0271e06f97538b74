use Rattle.std.proofs.Common.{◌≡◌, ℕ, length, Some}
use Rattle.std.specs.Prelude.{slice_get}
use Rattle.successors.specs.declared.commands.Command.{Command}
use Rattle.successors.specs.Commands.{IsCommandCode}
use Rattle.successors.proofs.commands.commands.Given as goal

-- the commands so far
abbrev pub invariant-loop-number : goal.invariant-loop-number
invariant-loop-number l = record {
  long : length l.commands ≡ l.number;
  each : (n : ℕ) (command : Command) → slice_get l.commands n ≡ Some command → IsCommandCode l.chain n command;
}
