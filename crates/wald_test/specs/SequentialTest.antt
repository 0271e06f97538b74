-- The numbers of a sequential probability ratio test (Wald, Sequential Analysis, 1947) with an indifference width (Younes and Simmons).
use Rattle.std.specs.Prelude.{ℕ, ◌+◌, ◌^◌, ◌<◌, ◌≤◌}

-- the upper and the lower probability are upper/parts and lower/parts, and the two error probabilities are alpha/error_parts and beta/error_parts
pub record SequentialTest : Type 0 where
  pub upper : ℕ
  pub lower : ℕ
  pub parts : ℕ
  pub alpha : ℕ
  pub beta : ℕ
  pub error_parts : ℕ

-- the lower probability is below the upper one, the errors are above 0 and add up to less than 1, and the numbers are below 2^62
pub record IsTest (t : SequentialTest) : Type 0 where
  pub apart : t.lower < t.upper
  pub upper_most : t.upper ≤ t.parts
  pub parts_small : t.parts < 2 ^ 62
  pub alpha_some : 0 < t.alpha
  pub beta_some : 0 < t.beta
  pub errors_small : t.alpha + t.beta < t.error_parts
  pub error_parts_small : t.error_parts < 2 ^ 62
