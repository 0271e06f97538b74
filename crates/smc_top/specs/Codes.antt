-- The exit statuses of the program.
use Rattle.std.specs.Prelude.{ℕ}
use Rattle.smc_top.specs.declared.status.Status.{Status}
use Rattle.smc_top.specs.declared.status.Status.TheVariants.{Accepted, Rejected, Undecided, Usage, ReadFault, ModelRefused, PropertyRefused, SettingsRefused, TraceFault, WriteFault, OutOfMemory}

-- the exit status
abbrev pub code_of : Status → ℕ
code_of Accepted = 0
code_of Rejected = 1
code_of Undecided = 2
code_of Usage = 3
code_of ReadFault = 4
code_of ModelRefused = 5
code_of PropertyRefused = 6
code_of SettingsRefused = 7
code_of TraceFault = 8
code_of WriteFault = 9
code_of OutOfMemory = 10
