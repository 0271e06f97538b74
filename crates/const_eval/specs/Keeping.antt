-- Values are of the sorts that the table of forms finds.
use Rattle.std.specs.Prelude.{◌≡◌, true, Option, Some, None, Ok, Err}
use Rattle.prism_syntax.specs.declared.expressions.Expr.{Expr}
use Rattle.chain_model.specs.declared.values.Sort.{Sort}
use Rattle.chain_model.specs.Sorts.{is_of_sort}
use Rattle.chain_model.specs.Values.{Valued}
use Rattle.prism_names.specs.First.{Name}
use Rattle.const_eval.specs.Sorting.{sort_in}
use Rattle.const_eval.specs.Evaluating.{value_in}

-- a result that is a value is of this sort
abbrev pub IsOfSort : Sort → Valued → Type 0
IsOfSort sort (Ok value) = is_of_sort sort value ≡ true
IsOfSort sort (Err fault) = Unit {0}

-- a result that is a value is of the sort that was found; where none was, nothing is said of it
abbrev pub FitsFound : Option Sort → Valued → Type 0
FitsFound None result = Unit {0}
FitsFound (Some sort) result = IsOfSort sort result

-- where each name that has a sort stands for a value of it or for a fault, so does each expression that has one
abbrev pub KeepsSorts : Type 0
KeepsSorts = (sorts : Name → Option Sort) (values : Name → Valued) → ((name : Name) → FitsFound (sorts name) (values name))
    → (expr : Expr) → FitsFound (sort_in sorts expr) (value_in values expr)
