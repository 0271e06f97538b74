-- The parts of a path formula as it is written: its time, and the typed trees of its state formulas.
use Rattle.std.specs.Prelude.{ℕ, Bool, true, false, Option, Some, None, if◌then◌else◌}
use Rattle.chain_model.specs.declared.values.Sort.TheVariants as sort
use Rattle.chain_model.specs.declared.values.Value.TheVariants as value
use Rattle.chain_model.specs.declared.expressions.Typed.{Typed}
use Rattle.chain_model.specs.Sorts.{◌>>=◌}
use Rattle.chain_model.specs.Typing.{is_same_sort}
use Rattle.prism_syntax.specs.declared.expressions.Expr.{Expr}
use Rattle.prism_syntax.specs.declared.properties.Cmp.{Cmp}
use Rattle.prism_syntax.specs.declared.properties.Cmp.TheVariants as cmp
use Rattle.prism_syntax.specs.declared.properties.Time.{Time}
use Rattle.prism_syntax.specs.declared.properties.Time.TheVariants.{Upto}
use Rattle.prism_syntax.specs.declared.properties.PathText.{PathText}
use Rattle.prism_syntax.specs.declared.properties.PathText.TheVariants as text
use Rattle.typed_trees.specs.Leaves.{literal}

-- the time of a path formula
abbrev pub time_of : PathText → Option Time
time_of (text.Next x) = None
time_of (text.Finally time x) = Some time
time_of (text.Globally time x) = Some time
time_of (text.Until x time y) = Some time

-- the expression of a time, and by how much a strict bound is lowered
abbrev pub last_of : Time → Expr
last_of (Upto strict last) = last

abbrev pub lowered_by : Time → ℕ
lowered_by (Upto strict last) = if strict then 1 else 0

-- the state formula that always holds
abbrev pub truth : Typed
truth = literal sort.Bool (value.Bool true)

-- a tree that is of sort `bool`
abbrev pub of_truth : Option Typed → Option Typed
of_truth found = found >>= λ tree. if is_same_sort sort.Bool tree.sort then Some tree else None

-- the trees of one state formula: the first always holds
abbrev pub one_formula : Option Typed → Option (Typed × Typed)
one_formula found = of_truth found >>= λ second. Some (truth, second)

-- the trees of two
abbrev pub two_formulas : Option Typed → Option Typed → Option (Typed × Typed)
two_formulas x y = of_truth x >>= λ first. of_truth y >>= λ second. Some (first, second)

-- the trees of the first and the second state formula of a path, where they are of sort `bool`
abbrev pub formulas_of : (Expr → Option Typed) → PathText → Option (Typed × Typed)
formulas_of tree (text.Next x) = one_formula (tree x)
formulas_of tree (text.Finally time x) = one_formula (tree x)
formulas_of tree (text.Globally time x) = one_formula (tree x)
formulas_of tree (text.Until x time y) = two_formulas (tree x) (tree y)

-- `<=` and `<` claim that the probability is at most the bound, `>=` and `>` that it is at least
abbrev pub is_at_most : Cmp → Bool
is_at_most cmp.AtLeast = false
is_at_most cmp.Above = false
is_at_most cmp.AtMost = true
is_at_most cmp.Below = true
