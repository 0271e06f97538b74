-- Numbers of nodes and depths of parentheses, up to 2^64 - 1.
use Rattle.std.specs.Prelude.{◌≡◌, ◌-◌, ◌^◌, ℕ, List, Option, Some, map, min, sum, slice_get}
use Rattle.std.specs.Option.{option_map}
use Rattle.prism_syntax.specs.declared.expressions.Expr.{Expr}
use Rattle.prism_syntax.specs.NodeCount.{node_count}
use Rattle.prism_syntax.specs.ParenDepth.{paren_depth, deepest}
use Rattle.prism_syntax.specs.declared.models.Module.{Module}
use Rattle.prism_syntax.specs.Replaced.{replaced}
use Rattle.prism_names.specs.First.{Name}
use Rattle.module_expand.specs.Listed.{module_exprs}
use Rattle.module_expand.specs.declared.sizes.Size.{Size}

-- the greatest number that is told
abbrev pub top : ℕ
top = 2 ^ 64 - 1

-- the size of a tree
abbrev pub size_of : Expr → Size
size_of x = record { nodes = min (node_count x) top; depth = min (paren_depth x) top }

-- the size of some expressions: how many nodes they have together, and how deep the deepest is
pub record IsSize (size : Size) (exprs : List Expr) : Type 0 where
  pub nodes : size.nodes ≡ min (sum (map node_count exprs)) top
  pub depth : size.depth ≡ min (deepest (map paren_depth exprs)) top

-- the sizes are those of the trees that names stand for
abbrev pub AreSizes : (Name → Option Size) → (Name → Option Expr) → Type 0
AreSizes sizes by = (name : Name) → sizes name ≡ option_map size_of (by name)

-- these sizes are those of the modules at the same places, each as far as it is written out
abbrev pub AreSizesOfEach : (Name → Option Expr) → List Module → List Size → Type 0
AreSizesOfEach by modules sizes = (place : ℕ) (m : Module) → slice_get modules place ≡ Some m
    → (size : Size) × (slice_get sizes place ≡ Some size) × IsSize size (map (replaced by) (module_exprs m))
