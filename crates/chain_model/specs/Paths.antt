-- What a path formula over a chain's variables is.
use Rattle.std.specs.Prelude.{ℕ, ◌≤◌, List}
use Rattle.chain_model.specs.declared.values.Sort.TheVariants as sort
use Rattle.chain_model.specs.declared.expressions.Labels.TheVariants.{Allowed}
use Rattle.chain_model.specs.declared.chain.Var.{Var}
use Rattle.chain_model.specs.declared.job.PathKind.{PathKind}
use Rattle.chain_model.specs.declared.job.PathKind.TheVariants.{Next, Until, Finally, Globally}
use Rattle.chain_model.specs.declared.job.Path.{Path}
use Rattle.chain_model.specs.Limits.{most_horizon}
use Rattle.chain_model.specs.Typing.{HasSort}

-- the number of the last state that the formula speaks of
abbrev pub horizon_of : PathKind → ℕ
horizon_of Next = 1
horizon_of (Until k) = k
horizon_of (Finally k) = k
horizon_of (Globally k) = k

-- a path formula has two state formulas of sort `bool`, in which the built-in labels may stand, and speaks of no state past the limit
pub record IsPath (vars : List Var) (path : Path) : Type 0 where
  pub horizon : horizon_of path.kind ≤ most_horizon
  pub first : HasSort vars Allowed sort.Bool path.first
  pub second : HasSort vars Allowed sort.Bool path.second
