-- The path formula of a property over a chain, and what the property claims of it.
use Rattle.std.specs.Prelude.{◌≡◌, ◌≤◌, ℕ, ℤ, pos, ◌-ℤ◌, List, [], ◌∷◌, ◌++◌, Option, Some, codes, map, bytes_eq}
use Rattle.std.specs.Map.{lookup}
use Rattle.chain_model.specs.declared.values.Sort.{Sort}
use Rattle.chain_model.specs.declared.values.Sort.TheVariants as sort
use Rattle.chain_model.specs.declared.expressions.Typed.{Typed}
use Rattle.chain_model.specs.declared.expressions.Form.TheVariants as form
use Rattle.chain_model.specs.declared.chain.Var.{Var}
use Rattle.chain_model.specs.declared.chain.Chain.{Chain}
use Rattle.chain_model.specs.declared.job.PathKind.{PathKind}
use Rattle.chain_model.specs.declared.job.PathKind.TheVariants as kind
use Rattle.chain_model.specs.declared.job.Path.{Path}
use Rattle.chain_model.specs.declared.job.Claim.{Claim}
use Rattle.chain_model.specs.Limits.{most_horizon}
use Rattle.chain_model.specs.Values.{Valued}
use Rattle.prism_syntax.specs.declared.expressions.Expr.{Expr}
use Rattle.prism_syntax.specs.declared.properties.Time.{Time}
use Rattle.prism_syntax.specs.declared.properties.PathText.{PathText}
use Rattle.prism_syntax.specs.declared.properties.PathText.TheVariants as text
use Rattle.prism_syntax.specs.declared.properties.Property.{Property}
use Rattle.prism_names.specs.First.{Name}
use Rattle.const_eval.specs.declared.consts.Constant.{Constant}
use Rattle.typed_trees.specs.Leaves.{leaf_of}
use Rattle.typed_trees.specs.Trees.{tree_of}
use Rattle.typed_trees.specs.Numbers.{constant_value}
use Rattle.typecheck.specs.Formulas.{last_of, lowered_by, formulas_of, is_at_most}
use Rattle.typecheck.specs.Numbers.{whole_of, fraction_in}

-- the built-in labels
abbrev pub built_in : List (Name × Typed)
built_in = (codes "init", record { sort = sort.Bool; form = form.IsInit }) ∷ ((codes "deadlock", record { sort = sort.Bool; form = form.IsDeadlock }) ∷ [])

-- what the name of a label stands for: a built-in one, or else the tree of a label of the chain
abbrev pub label_leaf : List (Name × Typed) → Name → Option Typed
label_leaf labels name = lookup (bytes_eq name) (built_in ++ labels)

-- the variables of a chain with their sorts
abbrev pub sorts_of_variables : List Var → List (Name × Sort)
sorts_of_variables vars = map (λ var. (var.name, var.sort)) vars

-- the number of the last state that a time allows: a strict bound is lowered by one
abbrev pub last_state : (Expr → Valued) → Time → ℤ
last_state values time = whole_of (values (last_of time)) -ℤ pos (lowered_by time)

-- a time allows the states up to this one, which is none past the greatest horizon
abbrev pub HasHorizon : (Expr → Valued) → Time → ℕ → Type 0
HasHorizon values time last = (last_state values time ≡ pos last) × (last ≤ most_horizon)

-- the kind of a path formula, with its horizon
abbrev pub HasKind : (Expr → Valued) → PathText → PathKind → Type 0
HasKind values (text.Next x) k = k ≡ kind.Next
HasKind values (text.Finally time x) k = (last : ℕ) × HasHorizon values time last × (k ≡ kind.Finally last)
HasKind values (text.Globally time x) k = (last : ℕ) × HasHorizon values time last × (k ≡ kind.Globally last)
HasKind values (text.Until x time y) k = (last : ℕ) × HasHorizon values time last × (k ≡ kind.Until last)

-- the path formula and the claim of a property, where names and labels stand for these trees and expressions of constants have these values
pub record IsTypedAs (names labels : Name → Option Typed) (values : Expr → Valued) (property : Property) (path : Path) (claim : Claim) : Type 0 where
  pub formulas : formulas_of (tree_of names labels) property.path ≡ Some (path.first, path.second)
  pub kind : HasKind values property.path path.kind
  pub theta : claim.theta ≡ fraction_in (values property.bound)
  pub side : claim.at_most ≡ is_at_most property.cmp

-- the path formula and the claim of a property over a chain and its constants
abbrev pub IsPathOf : List (Name × Constant) → Chain → Property → Path → Claim → Type 0
IsPathOf consts chain = IsTypedAs (leaf_of consts (sorts_of_variables chain.vars)) (label_leaf chain.labels) (constant_value consts)
