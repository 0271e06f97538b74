-- Items that stand before those of a result.
use Rattle.std.proofs.Common.{List, ◌++◌, Result, Ok, Err}
use Rattle.chain_model.specs.declared.outcome.TraceFault.{TraceFault}

-- items that stand before those of a result
abbrev pub prepend : {A : Type 0} → List A → Result (List A) TraceFault → Result (List A) TraceFault
prepend items (Ok others) = Ok (items ++ others)
prepend items (Err fault) = Err fault
