-- The refusals of a property's types, in order, each with the first name in text order.
use Rattle.std.specs.Prelude.{◌≡◌, ℕ, List, Option, Some, Bool, true, false, ◌&&◌, is_some}
use Rattle.std.specs.Option.{option_or, option_map_or, option_and_then}
use Rattle.chain_model.specs.declared.outcome.TraceFault.{TraceFault}
use Rattle.chain_model.specs.declared.values.Sort.TheVariants as sort
use Rattle.chain_model.specs.declared.expressions.Typed.{Typed}
use Rattle.chain_model.specs.declared.chain.Chain.{Chain}
use Rattle.chain_model.specs.Sorts.{is_number}
use Rattle.chain_model.specs.Typing.{is_same_sort}
use Rattle.chain_model.specs.Values.{Valued}
use Rattle.prism_syntax.specs.declared.expressions.Expr.{Expr}
use Rattle.prism_syntax.specs.declared.properties.Time.{Time}
use Rattle.prism_syntax.specs.declared.properties.PathText.{PathText}
use Rattle.prism_syntax.specs.declared.properties.PathText.TheVariants as text
use Rattle.prism_syntax.specs.declared.properties.Property.{Property}
use Rattle.prism_names.specs.First.{Name}
use Rattle.const_eval.specs.declared.consts.Constant.{Constant}
use Rattle.typed_trees.specs.Leaves.{constant_leaf, leaf_of}
use Rattle.typed_trees.specs.Trees.{tree_of, no_label}
use Rattle.typed_trees.specs.Numbers.{constant_value}
use Rattle.typecheck.specs.declared.fault.TypeFault.{TypeFault}
use Rattle.typecheck.specs.declared.fault.TypeFault.TheVariants as fault
use Rattle.typecheck.specs.declared.fault.Item.TheVariants as item
use Rattle.typecheck.specs.Refusals.{Tells, failing}
use Rattle.typecheck.specs.Names.{unknown_in, unknown_label_in}
use Rattle.typecheck.specs.Formulas.{time_of, last_of, formulas_of}
use Rattle.typecheck.specs.Numbers.{fault_of, number_fault}
use Rattle.typecheck.specs.Paths.{sorts_of_variables, label_leaf, HasHorizon}

-- the first name of a path as it is written that stands for nothing; a time may name constants alone
abbrev pub unknown_in_path : (Name → Option Typed) → (Name → Option Typed) → PathText → Option Name
unknown_in_path constants names (text.Next x) = unknown_in names x
unknown_in_path constants names (text.Finally time x) = option_or (unknown_in constants (last_of time)) (unknown_in names x)
unknown_in_path constants names (text.Globally time x) = option_or (unknown_in constants (last_of time)) (unknown_in names x)
unknown_in_path constants names (text.Until x time y) =
    option_or (unknown_in names x) (option_or (unknown_in constants (last_of time)) (unknown_in names y))

-- the first name of a property, in text order, that stands for nothing; the bound may name constants alone
abbrev pub unknown_in_property : (Name → Option Typed) → (Name → Option Typed) → Property → Option Name
unknown_in_property constants names property = option_or (unknown_in constants property.bound) (unknown_in_path constants names property.path)

-- the first label, in text order, that a state formula names and that isn't there
abbrev pub unknown_label_in_path : (Name → Option Typed) → PathText → Option Name
unknown_label_in_path labels (text.Next x) = unknown_label_in labels x
unknown_label_in_path labels (text.Finally time x) = unknown_label_in labels x
unknown_label_in_path labels (text.Globally time x) = unknown_label_in labels x
unknown_label_in_path labels (text.Until x time y) = option_or (unknown_label_in labels x) (unknown_label_in labels y)

-- a tree of sort `int` is there, and one of a number
abbrev pub is_whole_tree : Option Typed → Bool
is_whole_tree found = option_map_or (λ tree. is_same_sort sort.Int tree.sort) found false

abbrev pub is_number_tree : Option Typed → Bool
is_number_tree found = option_map_or (λ tree. is_number tree.sort) found false

-- the sorts of a bound and of a time fit: the bound is a number, the time of sort `int`
abbrev pub numbers_fit : (Expr → Option Typed) → Property → Bool
numbers_fit tree property =
    is_number_tree (tree property.bound) && option_map_or (λ time. is_whole_tree (tree (last_of time))) (time_of property.path) true

-- the sorts of a property fit: those of its numbers do, and its state formulas are of sort `bool`
abbrev pub property_fits : (Expr → Option Typed) → (Expr → Option Typed) → Property → Bool
property_fits constant_tree tree property = numbers_fit constant_tree property && is_some (formulas_of tree property.path)

-- the fault of a path's time
abbrev pub time_fault : (Expr → Valued) → PathText → Option TraceFault
time_fault values path = option_and_then (λ time. fault_of (values (last_of time))) (time_of path)

-- the fault of a bound, or else of a time
abbrev pub first_fault : (Expr → Valued) → Property → Option TraceFault
first_fault values property = option_or (fault_of (values property.bound)) (time_fault values property.path)

-- a path formula has a time that ends at no state from 0 to the greatest horizon
abbrev pub HasNoHorizon : (Expr → Valued) → PathText → Type 0
HasNoHorizon values path = (time : Time) × (time_of path ≡ Some time) × ((last : ℕ) → ¬ HasHorizon values time last)

-- a property is refused with this fault: the first cause in this order. Expressions of constants and state formulas have these trees, and
-- constants, names and labels stand for these
abbrev pub IsRefusedAs : (constant_tree tree : Expr → Option Typed) (constants names labels : Name → Option Typed) → (Expr → Valued)
    → Property → TypeFault → Type 0
IsRefusedAs constant_tree tree constants names labels values property =
    Tells (unknown_in_property constants names property) (λ name f. f ≡ fault.UnknownName name)
    (Tells (unknown_label_in_path labels property.path) (λ name f. f ≡ fault.UnknownLabel name)
    (Tells (failing (property_fits constant_tree tree property)) (λ _ f. f ≡ fault.WrongType item.Property)
    (Tells (first_fault values property) (λ found f. f ≡ fault.BadNumber item.Property (number_fault found))
    (λ f. (f ≡ fault.BadHorizon) × HasNoHorizon values property.path))))

-- a property over a chain and its constants is refused with this fault
abbrev pub IsRefusedProperty : List (Name × Constant) → Chain → Property → TypeFault → Type 0
IsRefusedProperty consts chain =
    let names : Name → Option Typed = leaf_of consts (sorts_of_variables chain.vars) in
    let labels : Name → Option Typed = label_leaf chain.labels in
    IsRefusedAs (tree_of (constant_leaf consts) no_label) (tree_of names labels) (constant_leaf consts) names labels (constant_value consts)
