use Rattle.std.proofs.Common.{take}
use Rattle.std.specs.Prelude.{flat_map}
use Rattle.guard_code.specs.Codes.{command_expressions}
use Rattle.guard_code.specs.Means.{Adds}
use Rattle.guard_code.proofs.code.add_commands.Given as goal

-- the commands so far
abbrev pub invariant-loop-act : goal.invariant-loop-act
invariant-loop-act l = Adds l.fn.nodes l.nodes (flat_map command_expressions (take l.act-index l.acts))
