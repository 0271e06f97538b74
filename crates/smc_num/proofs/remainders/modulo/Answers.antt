use Rattle.std.proofs.Common.{pos, ◌<ℤ◌, w64, to_z-of_z, FitsSigned, ◌∙◌, arith}
use Rattle.std.proofs.lemmas.Int.{ints}
use Rattle.smc_num.proofs.OrderLemmas.{multiple_of}
use Rattle.smc_num.proofs.remainders.modulo.Goals as goal

pub returns-else-n-lt0-clause-multiple : goal.returns-else-n-lt0-clause-multiple
returns-else-n-lt0-clause-multiple c =
    let i_fits : FitsSigned w64 c.args.i = c.ranges.i in
    let n_fits : FitsSigned w64 c.args.n = c.ranges.n in
    let rest_fits : FitsSigned w64 c.rem_euclid.result = record { sfits = c.rem_euclid.type_inv } in
    let some : pos 0 <ℤ c.args.n = omega (arith, ints) in
    multiple_of c.args.i c.args.n _ some (to_z-of_z {w = w64} rest_fits ∙ simp to_z-of_z at c.rem_euclid.ensures.value)
