-- The variables, commands and labels of a flat model in text order, and the first whose sorts don't fit.
use Rattle.std.specs.Prelude.{ℕ, ◌+◌, List, [], ◌∷◌, Option, Some, None, Bool, true, false, ◌&&◌, length, nat_lt, if◌then◌else◌}
use Rattle.std.specs.List.{enumerate_from, list_all}
use Rattle.std.specs.Option.{option_map_or, option_or}
use Rattle.chain_model.specs.declared.values.Sort.{Sort}
use Rattle.chain_model.specs.declared.values.Sort.TheVariants as sort
use Rattle.chain_model.specs.declared.expressions.Typed.{Typed}
use Rattle.chain_model.specs.Sorts.{is_number}
use Rattle.chain_model.specs.Typing.{is_same_sort}
use Rattle.prism_syntax.specs.declared.expressions.Expr.{Expr}
use Rattle.prism_syntax.specs.declared.commands.Branch.{Branch}
use Rattle.prism_syntax.specs.declared.commands.Command.{Command}
use Rattle.prism_syntax.specs.declared.models.Named.{Named}
use Rattle.prism_syntax.specs.declared.models.Variable.{Variable}
use Rattle.prism_syntax.specs.declared.models.Module.{Module}
use Rattle.prism_syntax.specs.declared.models.FlatText.{FlatText}
use Rattle.prism_names.specs.First.{Name, first_some}
use Rattle.typed_trees.specs.Leaves.{shown}
use Rattle.typecheck.specs.declared.fault.Item.{Item}
use Rattle.typecheck.specs.declared.fault.Item.TheVariants as item
use Rattle.typecheck.specs.Declarations.{variables_of, commands_of, declared_sort}

-- a tree is there, and of this sort
abbrev pub is_tree_of : Sort → Option Typed → Bool
is_tree_of s found = option_map_or (λ tree. is_same_sort s tree.sort) found false

-- expressions of constants have these trees
module _ (constant_tree : Expr → Option Typed) where
  -- the ends of a range are of sort `int`
  abbrev pub range_fits : Variable → Bool
  range_fits v = option_map_or (λ r. is_tree_of sort.Int (constant_tree r.0) && is_tree_of sort.Int (constant_tree r.1)) v.range true

  -- an initial value is of its variable's sort
  abbrev pub init_fits : Variable → Bool
  init_fits v = option_map_or (λ x. is_tree_of (declared_sort v) (constant_tree x)) v.init true

  -- a variable's range and its initial value fit
  abbrev pub variable_fits : Variable → Bool
  variable_fits v = range_fits v && init_fits v

-- expressions have these trees, and variables are of these sorts
module _ (tree : Expr → Option Typed) (sorts : Name → Option Sort) where
  -- an assigned value is of its variable's sort
  abbrev pub assignment_fits : Name × Expr → Bool
  assignment_fits set = option_map_or (λ s. is_tree_of s (tree set.1)) (sorts set.0) false

  -- a weight is a number
  abbrev pub weight_fits : Branch → Bool
  weight_fits b = option_map_or (λ x. option_map_or (λ t. is_number t.sort) (tree x) false) b.weight true

  -- a weight is a number, and each assignment fits
  abbrev pub branch_fits : Branch → Bool
  branch_fits b = weight_fits b && list_all assignment_fits b.sets

  -- a guard is of sort `bool`, and each branch fits; a command without a branch, which no well-formed text has, doesn't
  abbrev pub command_fits : Command → Bool
  command_fits c = is_tree_of sort.Bool (tree c.guard) && (nat_lt 0 (length c.branches) && list_all branch_fits c.branches)

-- the first variable, numbered from here, whose sorts don't fit
abbrev pub unfit_variable : (Expr → Option Typed) → ℕ → List Variable → Option Item
unfit_variable constant_tree from vars =
    first_some (λ v. if variable_fits constant_tree v.1 then None else Some (item.Variable (shown v.0))) (enumerate_from from vars)

-- the first label that is not of sort `bool`
abbrev pub unfit_label : (Expr → Option Typed) → List Named → Option Item
unfit_label tree labels = first_some (λ l. if is_tree_of sort.Bool (tree l.1.body) then None else Some (item.Label (shown l.0))) (enumerate_from 0 labels)

module _ (tree : Expr → Option Typed) (sorts : Name → Option Sort) where
  -- the first command, numbered from here, whose sorts don't fit
  abbrev pub unfit_command : ℕ → List Command → Option Item
  unfit_command from commands =
      first_some (λ c. if command_fits tree sorts c.1 then None else Some (item.Command (shown c.0))) (enumerate_from from commands)

-- expressions of constants have these trees, and other expressions these; variables are of these sorts
module _ (constant_tree tree : Expr → Option Typed) (sorts : Name → Option Sort) where
  -- the first item of a module, its variables before its commands, whose sorts don't fit; they are numbered from here
  abbrev pub unfit_in_module : ℕ → ℕ → Module → Option Item
  unfit_in_module vars commands m = option_or (unfit_variable constant_tree vars (variables_of m)) (unfit_command tree sorts commands (commands_of m))

  -- the first item of modules whose sorts don't fit; variables and commands are numbered through
  abbrev pub unfit_in_modules : ℕ → ℕ → List Module → Option Item
  unfit_in_modules vars commands [] = None
  unfit_in_modules vars commands (m ∷ modules) =
      option_or (unfit_in_module vars commands m)
      (unfit_in_modules (vars + length (variables_of m)) (commands + length (commands_of m)) modules)

  -- the first item, in text order, whose sorts don't fit: globals, modules, labels
  abbrev pub first_unfit : FlatText → Option Item
  first_unfit flat =
      option_or (unfit_variable constant_tree 0 flat.globals)
      (option_or (unfit_in_modules (length flat.globals) 0 flat.modules) (unfit_label tree flat.labels))
