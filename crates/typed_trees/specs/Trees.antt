-- The typed tree of an expression.
use Rattle.std.specs.Prelude.{◌≡◌, List, [], ◌∷◌, Option, Some, None, map, if◌then◌else◌}
use Rattle.smc_num.specs.Fraction.{Fraction}
use Rattle.prism_syntax.specs.declared.expressions.Expr.{Expr}
use Rattle.prism_syntax.specs.declared.expressions.Expr.TheOpen.{Expr-F}
use Rattle.prism_syntax.specs.declared.expressions.Expr.TheOpen as top
use Rattle.prism_syntax.specs.declared.expressions.Expr.TheFolds.{fold-Expr}
use Rattle.chain_model.specs.declared.values.Sort.{Sort}
use Rattle.chain_model.specs.declared.values.Sort.TheVariants as sort
use Rattle.chain_model.specs.declared.values.Value.{Value}
use Rattle.chain_model.specs.declared.values.Value.TheVariants as value
use Rattle.chain_model.specs.declared.expressions.Func.{Func}
use Rattle.chain_model.specs.declared.expressions.Op.{Op}
use Rattle.chain_model.specs.declared.expressions.Typed.{Typed}
use Rattle.chain_model.specs.declared.expressions.Labels.{Labels}
use Rattle.chain_model.specs.declared.expressions.Form.{Form}
use Rattle.chain_model.specs.declared.expressions.Form.TheVariants as form
use Rattle.chain_model.specs.Sorts.{◌>>=◌, is_of_sort, call_sort, level_sort, negation_sort, opposite_sort, conditional_sort}
use Rattle.chain_model.specs.declared.chain.Var.{Var}
use Rattle.chain_model.specs.Typing.{IsTyped}
use Rattle.prism_names.specs.First.{Name}
use Rattle.const_eval.specs.Tables.{op_of, func_of}
use Rattle.typed_trees.specs.Leaves.{literal}

-- the trees of all parts, where each has one
abbrev pub all_trees : List (Option Typed) → Option (List Typed)
all_trees [] = Some []
all_trees (part ∷ parts) = part >>= λ tree. all_trees parts >>= λ trees. Some (tree ∷ trees)

-- a form, where the table of forms gives it a sort
abbrev pub of_sort : Form → Option Sort → Option Typed
of_sort made found = found >>= λ s. Some (record { sort = s; form = made })

-- the sort of a number without a fraction, which is a whole one
abbrev pub whole_sort : Value → Option Sort
whole_sort x = if is_of_sort sort.Int x then Some sort.Int else None

-- the sorts of trees
abbrev pub sorts_of : List Typed → List (Option Sort)
sorts_of trees = map (λ tree. Some tree.sort) trees

-- the tree of a node by those of its parts, where their sorts fit the table of forms
abbrev pub call_tree : Func → List Typed → Option Typed
call_tree f trees = of_sort (form.Call f trees) (call_sort f (sorts_of trees))

abbrev pub level_tree : List Typed → List Op → Option Typed
level_tree trees ops = of_sort (form.Level trees ops) (level_sort (sorts_of trees) ops)

abbrev pub negation_tree : Typed → Option Typed
negation_tree x = of_sort (form.Not x) (negation_sort x.sort)

abbrev pub opposite_tree : Typed → Option Typed
opposite_tree x = of_sort (form.Minus x) (opposite_sort x.sort)

abbrev pub conditional_tree : Typed → Typed → Typed → Option Typed
conditional_tree c x y = of_sort (form.If c x y) (conditional_sort c.sort x.sort y.sort)

-- the tree of a conditional, where each of its parts has one
abbrev pub if_tree : Option Typed → Option Typed → Option Typed → Option Typed
if_tree c x y = c >>= λ condition. x >>= λ first. y >>= conditional_tree condition first

-- the tree of one node by those of its parts; what names and labels stand for is given
abbrev pub tree_step : (Name → Option Typed) → (Name → Option Typed) → Expr-F (Option Typed) → Option Typed
tree_step names labels (top.Whole x) = of_sort (form.Lit (value.Num x)) (whole_sort (value.Num x))
tree_step names labels (top.Real x) = Some (literal sort.Double (value.Num x))
tree_step names labels (top.Truth b) = Some (literal sort.Bool (value.Bool b))
tree_step names labels (top.Name text) = names text
tree_step names labels (top.Quoted text) = labels text
tree_step names labels (top.Paren x) = x
tree_step names labels (top.Call f xs) = all_trees xs >>= call_tree (func_of f)
tree_step names labels (top.Not x) = x >>= negation_tree
tree_step names labels (top.Minus x) = x >>= opposite_tree
tree_step names labels (top.Level xs ops) = all_trees xs >>= λ trees. level_tree trees (map op_of ops)
tree_step names labels (top.If c x y) = if_tree c x y

-- the typed tree of an expression, where its sorts fit: parentheses are left out, and each name stands for its tree
abbrev pub tree_of : (Name → Option Typed) → (Name → Option Typed) → Expr → Option Typed
tree_of names labels = fold-Expr (Option Typed) (tree_step names labels)

-- no label may be named
abbrev pub no_label : Name → Option Typed
no_label text = None

-- the trees that names stand for are well typed over these variables
abbrev pub AreWellTyped : List Var → Labels → (Name → Option Typed) → Type 0
AreWellTyped vars allowed names = (name : Name) (tree : Typed) → names name ≡ Some tree → IsTyped vars allowed tree
