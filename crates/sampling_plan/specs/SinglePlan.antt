-- A single sampling plan: how large the sample is, and how many of it have to succeed.
use Rattle.std.specs.Prelude.{ℕ}

-- at most so many samples are drawn, and more of them have to succeed than the acceptance number
pub record SinglePlan : Type 0 where
  pub samples : ℕ
  pub acceptance_number : ℕ
