use Rattle.std.proofs.Common.{◌≡◌, drop}
use Rattle.smc_io.specs.Files.{file_of, names_and_bytes}
use Rattle.smc_io.proofs.shelf.number_of.Given as goal

-- no file before this one has the name
abbrev pub invariant-loop-number : goal.invariant-loop-number
invariant-loop-number l =
    file_of (names_and_bytes l.files) l.name ≡ file_of (drop l.number (names_and_bytes l.files)) l.name
