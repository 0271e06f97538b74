-- The words go on as those that are left.
use Rattle.std.proofs.Common.{◌↔◌, map, string_bytes, drop}
use Rattle.smc_settings.specs.Parse.{HasOptions, GoesOn}
use Rattle.smc_settings.proofs.options.are_options.Given as goal

-- the words give options exactly where those that are left go on so
abbrev pub invariant-loop-word : goal.invariant-loop-word
invariant-loop-word l =
    HasOptions (map (λ known. known.now) l.table) (map string_bytes l.words)
    ↔ GoesOn (map (λ known. known.now) l.table) l.waits (map string_bytes (drop l.word-index l.words))
