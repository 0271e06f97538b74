-- The chain of a flat model and its constants.
use Rattle.std.specs.Prelude.{◌≡◌, ℕ, ℤ, pos, List, Option, Some, Ok, MatchOption, map, position, bytes_eq}
use Rattle.std.specs.List.{AllZip}
use Rattle.std.specs.Option.{option_and_then}
use Rattle.smc_num.specs.Fraction.{Fraction}
use Rattle.chain_model.specs.declared.values.Sort.TheVariants as sort
use Rattle.chain_model.specs.declared.values.Value.{Value}
use Rattle.chain_model.specs.declared.values.Value.TheVariants as value
use Rattle.chain_model.specs.declared.expressions.Typed.{Typed}
use Rattle.chain_model.specs.declared.chain.Var.{Var}
use Rattle.chain_model.specs.declared.chain.Arm.{Arm}
use Rattle.chain_model.specs.declared.chain.Act.{Act}
use Rattle.chain_model.specs.declared.chain.Chain.{Chain}
use Rattle.chain_model.specs.Step.{stored}
use Rattle.prism_syntax.specs.declared.expressions.Expr.{Expr}
use Rattle.prism_syntax.specs.declared.commands.Branch.{Branch}
use Rattle.prism_syntax.specs.declared.commands.Command.{Command}
use Rattle.prism_syntax.specs.declared.models.Named.{Named}
use Rattle.prism_syntax.specs.declared.models.Variable.{Variable}
use Rattle.prism_syntax.specs.declared.models.FlatText.{FlatText}
use Rattle.prism_names.specs.First.{Name}
use Rattle.const_eval.specs.declared.consts.Constant.{Constant}
use Rattle.typed_trees.specs.Leaves.{literal, leaf_of}
use Rattle.typed_trees.specs.Trees.{tree_of, no_label}
use Rattle.typed_trees.specs.Numbers.{constant_value}
use Rattle.typecheck.specs.Declarations.{module_name, declared_sort, declared_variables, variable_sorts, declared_commands, declared_actions}

-- the number that an expression of constants is in a state
abbrev pub HasNumber : List (Name × Constant) → Expr → ℤ → Type 0
HasNumber consts expr number = (v : Value) × (constant_value consts expr ≡ Ok v) × (number ≡ stored v)

-- a variable of a chain is one of the text: a range has the values of its ends, a boolean goes from 0 to 1, and without
-- an initial value it starts with its least
pub record IsVariableOf (consts : List (Name × Constant)) (text : Option ℕ × Variable) (var : Var) : Type 0 where
  pub name : var.name ≡ text.1.name
  pub owner : var.owner ≡ text.0
  pub sort : var.sort ≡ declared_sort text.1
  pub range : MatchOption text.1.range ((var.lo ≡ pos 0) × (var.hi ≡ pos 1)) (λ r. HasNumber consts r.0 var.lo × HasNumber consts r.1 var.hi)
  pub start : MatchOption text.1.init (var.init ≡ var.lo) (λ x. HasNumber consts x var.init)

-- the typed tree of an expression of a model is this one
abbrev pub IsTreeOf : List (Name × Constant) → FlatText → Expr → Typed → Type 0
IsTreeOf consts flat expr tree = tree_of (leaf_of consts (variable_sorts flat)) no_label expr ≡ Some tree

-- a variable of this name has this number
abbrev pub IsNumberOf : FlatText → Name → ℕ → Type 0
IsNumberOf flat name number = position (λ v. bytes_eq name v.0) (variable_sorts flat) ≡ Some number

-- the number 1
abbrev pub one : Fraction
one = record { num = pos 1; den = 1 }

-- a branch of a chain is one of the text: a weight that is left out is 1, and each assignment is of the variable of its name
pub record IsBranchOf (consts : List (Name × Constant)) (flat : FlatText) (text : Branch) (arm : Arm) : Type 0 where
  pub weight : MatchOption text.weight (arm.weight ≡ literal sort.Int (value.Num one)) (λ x. IsTreeOf consts flat x arm.weight)
  pub sets : AllZip (λ set assignment. IsNumberOf flat set.0 assignment.0 × IsTreeOf consts flat set.1 assignment.1) text.sets arm.sets

-- a command of a chain is one of the text, with the number of its module and of its action
pub record IsCommandOf (consts : List (Name × Constant)) (flat : FlatText) (text : ℕ × Command) (act : Act) : Type 0 where
  pub owner : act.module ≡ text.0
  pub action : act.action ≡ option_and_then (λ name. position (bytes_eq name) (declared_actions flat)) text.1.action
  pub guard : IsTreeOf consts flat text.1.guard act.guard
  pub branches : AllZip (IsBranchOf consts flat) text.1.branches act.branches

-- a label of a chain is one of the text
pub record IsLabelOf (consts : List (Name × Constant)) (flat : FlatText) (text : Named) (label : Name × Typed) : Type 0 where
  pub name : label.0 ≡ text.name
  pub body : IsTreeOf consts flat text.body label.1

-- the chain of a flat model and its constants: variables, commands and labels of the text, one by one, and the actions by
-- first appearance. Which modules take part in an action says what a chain is.
pub record IsChainOf (flat : FlatText) (consts : List (Name × Constant)) (chain : Chain) : Type 0 where
  pub vars : AllZip (IsVariableOf consts) (declared_variables flat) chain.vars
  pub actions : map (λ action. action.name) chain.actions ≡ declared_actions flat
  pub modules : chain.modules ≡ map module_name flat.modules
  pub commands : AllZip (IsCommandOf consts flat) (declared_commands flat) chain.commands
  pub labels : AllZip (IsLabelOf consts flat) flat.labels chain.labels
