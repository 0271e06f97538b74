use Rattle.std.proofs.Common.{◌≡◌, pos, neg_ℤ, ◌-ℤ◌, sym, subst, w64, to_z, of_z, arith}
use Rattle.std.proofs.lemmas.Int.{ints}
use Rattle.smc_num.specs.Fraction.{IsFrac}
use Rattle.smc_num.proofs.SumLemmas.{IsFrac-negated}
use Rattle.smc_num.proofs.fraction.negated.Goals as goal

pub invariant_of-result : goal.invariant_of-result
invariant_of-result c =
    let small = c.a.invariant.num_small in
    let number : to_z w64 (of_z w64 (pos 0 -ℤ to_z w64 (of_z w64 c.a.inside.num))) ≡ neg_ℤ c.a.inside.num = omega (arith, ints) in
    subst (λ n. IsFrac (record { num = n; den = c.a.inside.den })) (sym number) (IsFrac-negated c.a.inside.num c.a.inside.den c.a.invariant)
