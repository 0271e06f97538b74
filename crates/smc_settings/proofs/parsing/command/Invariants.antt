use Rattle.std.proofs.Common.{◌≡◌, map, take}
use Rattle.clap.specs.Words.{app_of}
use Rattle.smc_settings.specs.Parse.{command_app}
use Rattle.smc_settings.proofs.parsing.command.Given as goal

-- the options so far
abbrev pub invariant-loop-name : goal.invariant-loop-name
invariant-loop-name l = app_of l.command ≡ command_app (map (λ name. name.now) (take l.name-index l.table))
