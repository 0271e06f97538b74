-- Weights of branches, one by one and over a common denominator.
use Rattle.std.specs.Prelude.{ℕ, ◌<◌, ◌≤◌, ◌*◌, ◌/◌, List, Result, map, unsigned_abs}
use Rattle.smc_num.specs.Fraction.{Fraction}
use Rattle.chain_model.specs.declared.outcome.TraceFault.{TraceFault}
use Rattle.chain_model.specs.declared.chain.Arm.{Arm}
use Rattle.chain_model.specs.Results.{◌>>=◌}
use Rattle.chain_model.specs.States.{State}
use Rattle.chain_model.specs.Choices.{value_in}
use Rattle.chain_model.specs.Step.{as_weight}

-- a fraction lies from 0 to 1
pub record IsWeight (weight : Fraction) : Type 0 where
  pub some : 0 < weight.den
  pub most : unsigned_abs weight.num ≤ weight.den

-- the weight of a branch of a command
abbrev pub weight_of : State → ℕ → Arm → Result Fraction TraceFault
weight_of state command arm = value_in state arm.weight >>= as_weight command

-- the numerators of weights over a denominator
abbrev pub numerators_over : ℕ → List Fraction → List ℕ
numerators_over den weights = map (λ weight. unsigned_abs weight.num * (den / weight.den)) weights
