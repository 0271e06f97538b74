use Rattle.std.proofs.Common.{◌^◌, ◌≤◌, arith}
use native.Mathlib.Nat.{pow-le-pow_right}
use Rattle.smc_num.proofs.fraction.spelling.digits.power_of_ten.Goals as goal

pub returns-clause-bound : goal.returns-clause-bound
returns-clause-bound c =
    let power : 10 ^ c.args.exponent ≤ 10 ^ 18 = pow-le-pow_right {n = 10} (omega arith) c.requires in
    omega (arith, power, c.pow.ensures)
