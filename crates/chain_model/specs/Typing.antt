-- Well-typed expressions: each node is of the sort that the table of forms gives it.
use Rattle.std.specs.Prelude.{◌≡◌, ℕ, Bool, true, false, List, Option, Some, None, option_map, if◌then◌else◌, slice_get, IsTrue}
use Rattle.std.specs.Option.{IsSomeAnd}
use Rattle.chain_model.specs.declared.values.Sort.{Sort}
use Rattle.chain_model.specs.declared.values.Sort.TheVariants as sort
use Rattle.chain_model.specs.declared.expressions.Labels.{Labels}
use Rattle.chain_model.specs.declared.expressions.Labels.TheVariants.{Allowed, Refused}
use Rattle.chain_model.specs.declared.expressions.Typed.{Typed}
use Rattle.chain_model.specs.declared.expressions.Form.TheOpen.{Form-F}
use Rattle.chain_model.specs.declared.expressions.Form.TheOpen as top
use Rattle.chain_model.specs.declared.expressions.Form.TheFolds.{fold-Typed}
use Rattle.chain_model.specs.declared.chain.Var.{Var}
use Rattle.chain_model.specs.Sorts.{◌>>=◌, is_of_sort, is_number, negation_sort, opposite_sort, conditional_sort, level_sort, call_sort}

-- the two sorts are one
abbrev pub is_same_sort : Sort → Sort → Bool
is_same_sort sort.Int sort.Int = true
is_same_sort sort.Double sort.Double = true
is_same_sort sort.Bool sort.Bool = true
is_same_sort _ _ = false

-- a sort that is found, where it is the one that is declared
abbrev pub as_declared : Sort → Option Sort → Option Sort
as_declared declared found = found >>= λ s. if is_same_sort declared s then Some s else None

-- the sort of a built-in label, where it may stand
abbrev pub label_sort : Labels → Option Sort
label_sort Allowed = Some sort.Bool
label_sort Refused = None

-- the sort of a variable, by its number
abbrev pub variable_sort : List Var → ℕ → Option Sort
variable_sort vars number = option_map (λ var. var.sort) (slice_get vars number)

-- the sort of a conditional, where each of its parts has one
abbrev pub if_sort : Option Sort → Option Sort → Option Sort → Option Sort
if_sort c x y = do
  condition ← c
  first ← x
  second ← y
  conditional_sort condition first second

-- the sort of one node by those of its parts; a literal is of its declared sort, where its value is
abbrev pub form_sort : List Var → Labels → Form-F (Sort → Option Sort) (Option Sort) → Sort → Option Sort
form_sort vars labels (top.Lit value) s = if is_of_sort s value then Some s else None
form_sort vars labels (top.Var number) s = variable_sort vars number
form_sort vars labels (top.Call func parts) s = call_sort func parts
form_sort vars labels (top.Not x) s = x >>= negation_sort
form_sort vars labels (top.Minus x) s = x >>= opposite_sort
form_sort vars labels (top.Level parts ops) s = level_sort parts ops
form_sort vars labels (top.If c x y) s = if_sort c x y
form_sort vars labels top.IsInit s = label_sort labels
form_sort vars labels top.IsDeadlock s = label_sort labels

-- the sort of an expression in which each node is of the sort that the table gives it; others have none
abbrev pub sort_of : List Var → Labels → Typed → Option Sort
sort_of vars labels = fold-Typed (Sort → Option Sort) (Option Sort) (form_sort vars labels) (λ t. as_declared t.sort (t.form t.sort))

-- an expression is well typed, and of this sort
abbrev pub HasSort : List Var → Labels → Sort → Typed → Type 0
HasSort vars labels s tree = sort_of vars labels tree ≡ Some s

-- an expression is well typed
abbrev pub IsTyped : List Var → Labels → Typed → Type 0
IsTyped vars labels tree = HasSort vars labels tree.sort tree

-- an expression is well typed, and a number
abbrev pub IsNumber : List Var → Labels → Typed → Type 0
IsNumber vars labels tree = IsSomeAnd (sort_of vars labels tree) (λ s. IsTrue (is_number s))
