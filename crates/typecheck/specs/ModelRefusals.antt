-- The refusals of a flat model's types, in order, each with the first name or item in text order.
use Rattle.std.specs.Prelude.{◌≡◌, ℕ, List, Option, true, map, option_map}
use Rattle.chain_model.specs.declared.values.Sort.{Sort}
use Rattle.chain_model.specs.declared.expressions.Typed.{Typed}
use Rattle.chain_model.specs.Values.{Valued}
use Rattle.prism_syntax.specs.declared.expressions.Expr.{Expr}
use Rattle.prism_syntax.specs.declared.commands.Command.{Command}
use Rattle.prism_syntax.specs.declared.models.Variable.{Variable}
use Rattle.prism_syntax.specs.declared.models.FlatText.{FlatText}
use Rattle.prism_names.specs.First.{Name, first_some}
use Rattle.const_eval.specs.declared.consts.Constant.{Constant}
use Rattle.typed_trees.specs.Leaves.{shown, constant_leaf, variable_leaf, leaf_of}
use Rattle.typed_trees.specs.Trees.{tree_of, no_label}
use Rattle.typed_trees.specs.Numbers.{constant_value}
use Rattle.typecheck.specs.declared.fault.TypeFault.{TypeFault}
use Rattle.typecheck.specs.declared.fault.TypeFault.TheVariants as fault
use Rattle.typecheck.specs.declared.fault.Item.TheVariants as item
use Rattle.typecheck.specs.Refusals.{Tells}
use Rattle.typecheck.specs.Numbers.{number_fault}
use Rattle.typecheck.specs.Declarations.{declared_variables, variable_sorts, declared_commands}
use Rattle.typecheck.specs.Uses.{unknown_in_model}
use Rattle.typecheck.specs.Items.{first_unfit}
use Rattle.typecheck.specs.Ranges.{first_variable_fault, first_empty, first_outside_range}
use Rattle.typecheck.specs.Writes.{owner_in, foreign_write, global_write, double_write, is_too_large}

-- a name may not stand where it does, or else sorts do not fit, or else something later is wrong. Constants, names and variables stand for
-- these, expressions of constants and others have these trees, and variables are of these sorts
abbrev pub TellsSorts : (constants names variables : Name → Option Typed) (constant_tree tree : Expr → Option Typed) (sorts : Name → Option Sort)
    → FlatText → (TypeFault → Type 0) → TypeFault → Type 0
TellsSorts constants names variables constant_tree tree sorts flat later =
    Tells (unknown_in_model constants names variables flat) (λ name f. f ≡ fault.UnknownName name)
    (Tells (first_unfit constant_tree tree sorts flat) (λ item f. f ≡ fault.WrongType item) later)

-- a number of a variable faults, or else a range is empty, or else a variable starts outside its range, or else something later is wrong
abbrev pub TellsNumbers : (Expr → Valued) → List Variable → (TypeFault → Type 0) → TypeFault → Type 0
TellsNumbers values vars later =
    Tells (first_variable_fault values vars) (λ found f. f ≡ fault.BadNumber (item.Variable (shown found.0)) (number_fault found.1))
    (Tells (first_empty values vars) (λ name f. f ≡ fault.BadRange name)
    (Tells (first_outside_range values vars) (λ name f. f ≡ fault.InitOutside name) later))

-- a variable of another module is written, or else a global in a labelled command, or else a variable twice in one update, or else something
-- later is wrong. The variables of names have these owners, and commands stand with the numbers of their modules and without
abbrev pub TellsWrites : (Name → Option (Option ℕ)) → List (ℕ × Command) → List Command → (TypeFault → Type 0) → TypeFault → Type 0
TellsWrites owners numbered commands later =
    Tells (first_some (foreign_write owners) numbered) (λ name f. f ≡ fault.ForeignWrite name)
    (Tells (first_some (global_write owners) commands) (λ name f. f ≡ fault.GlobalInSync name)
    (Tells (first_some double_write commands) (λ name f. f ≡ fault.WrittenTwice name) later))

-- a flat model is too large, and the fault tells it
abbrev pub IsTooLarge : FlatText → TypeFault → Type 0
IsTooLarge flat f = (f ≡ fault.TooLarge) × (is_too_large flat ≡ true)

-- the sort of the variable that a name stands for
abbrev pub sort_by : (Name → Option Typed) → Name → Option Sort
sort_by variables name = option_map (λ tree. tree.sort) (variables name)

-- a flat model with its constants is refused with this fault: the first cause in this order, the first of its kind in text order
abbrev pub IsRefused : FlatText → List (Name × Constant) → TypeFault → Type 0
IsRefused flat consts =
    let variables : Name → Option Typed = variable_leaf (variable_sorts flat) in
    let names : Name → Option Typed = leaf_of consts (variable_sorts flat) in
    TellsSorts (constant_leaf consts) names variables (tree_of (constant_leaf consts) no_label) (tree_of names no_label) (sort_by variables) flat
    (TellsNumbers (constant_value consts) (map (λ v. v.1) (declared_variables flat))
    (TellsWrites (owner_in (declared_variables flat)) (declared_commands flat) (map (λ c. c.1) (declared_commands flat)) (IsTooLarge flat)))
