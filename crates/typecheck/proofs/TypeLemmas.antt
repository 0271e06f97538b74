-- The trees of a flat model are well typed over the variables of its chain.
use Rattle.std.proofs.Common.{◌≡◌, ℕ, ◌≤◌, List, [], ◌∷◌, Option, Bool, true, false, length, map, refl, ap, ◌∙◌, subst}
use Rattle.std.specs.Prelude.{None, Some}
use Rattle.std.specs.Option.{option_map_or}
use Rattle.chain_model.specs.declared.values.Sort.{Sort}
use Rattle.chain_model.specs.declared.values.Sort.TheVariants as sort
use Rattle.chain_model.specs.declared.expressions.Labels.TheVariants.{Refused}
use Rattle.chain_model.specs.declared.expressions.Typed.{Typed}
use Rattle.chain_model.specs.declared.chain.Var.{Var}
use Rattle.chain_model.specs.Typing.{is_same_sort, HasSort, IsTyped}
use Rattle.chain_model.specs.Values.{Valued}
use Rattle.prism_syntax.specs.declared.expressions.Expr.{Expr}
use Rattle.prism_syntax.specs.declared.models.Variable.{Variable}
use Rattle.prism_names.specs.First.{Name}
use Rattle.const_eval.specs.declared.consts.Constant.{Constant}
use Rattle.typed_trees.specs.Leaves.{constant_leaf, variable_leaf, leaf_of}
use Rattle.typed_trees.specs.Trees.{tree_of, no_label, AreWellTyped}
use Rattle.typed_trees.proofs.TypedLemmas.{tree_of-IsTyped}
use Rattle.typed_trees.proofs.LeafLemmas.{constants-AreWellTyped, variables-AreWellTyped, leaves-AreWellTyped}
use Rattle.typecheck.specs.Declarations.{declared_sort}
use Rattle.typecheck.specs.Items.{is_tree_of}
use Rattle.typecheck.specs.Parts.{made_variable}

-- sorts that are found to be one are
same-sort : (a b : Sort) → is_same_sort a b ≡ true → b ≡ a
same-sort sort.Int sort.Int is = refl
same-sort sort.Double sort.Double is = refl
same-sort sort.Bool sort.Bool is = refl
same-sort sort.Int sort.Double is = absurd (let never : ⊥ = cc in never)
same-sort sort.Int sort.Bool is = absurd (let never : ⊥ = cc in never)
same-sort sort.Double sort.Int is = absurd (let never : ⊥ = cc in never)
same-sort sort.Double sort.Bool is = absurd (let never : ⊥ = cc in never)
same-sort sort.Bool sort.Int is = absurd (let never : ⊥ = cc in never)
same-sort sort.Bool sort.Double is = absurd (let never : ⊥ = cc in never)

-- a tree of a sort is there
pub tree-there : (s : Sort) (o : Option Typed) → is_tree_of s o ≡ true → (t : Typed) × (o ≡ Some t) × (t.sort ≡ s)
tree-there s None is = absurd (let never : ⊥ = cc in never)
tree-there s (Some t) is = (t, refl, same-sort s t.sort is)

-- a test of what is there holds of something
pub there-passes : {X : Type 0} (p : X → Bool) (o : Option X) → option_map_or p o false ≡ true → (x : X) × (o ≡ Some x) × (p x ≡ true)
there-passes p None is = absurd (let never : ⊥ = cc in never)
there-passes p (Some x) is = (x, refl, is)

module _ (consts : List (Name × Constant)) (declared : List (Option ℕ × Variable)) (values : Expr → Valued) where
  abbrev sorts : List (Name × Sort)
  sorts = map (λ v. (v.1.name, declared_sort v.1)) declared

  abbrev vars : List Var
  vars = map (made_variable values) declared

  named : (ds : List (Option ℕ × Variable)) → map {B = Name × Sort} (λ v. (v.name, v.sort)) (map (made_variable values) ds) ≡ map (λ v. (v.1.name, declared_sort v.1)) ds
  named [] = refl
  named (d ∷ ds) = ap (λ rest. (d.1.name, declared_sort d.1) ∷ rest) (named ds)

  -- what names stand for is
  leaves-typed : length vars ≤ 256 → AreWellTyped vars Refused (leaf_of consts sorts)
  leaves-typed few =
      leaves-AreWellTyped vars Refused (constant_leaf consts) (variable_leaf sorts) (constants-AreWellTyped vars Refused consts)
      (subst (λ (ss : List (Name × Sort)). AreWellTyped vars Refused (variable_leaf ss)) (named declared) (variables-AreWellTyped vars Refused few))

  labels-typed : AreWellTyped vars Refused no_label
  labels-typed name tree is = absurd (let never : ⊥ = cc in never)

  pub tree-typed : length vars ≤ 256 → (x : Expr) (t : Typed) → tree_of (leaf_of consts sorts) no_label x ≡ Some t → IsTyped vars Refused t
  tree-typed few x t is = tree_of-IsTyped vars Refused (leaf_of consts sorts) no_label (leaves-typed few) labels-typed x t is

  pub tree-sorted : length vars ≤ 256 → (x : Expr) (t : Typed) (s : Sort) → tree_of (leaf_of consts sorts) no_label x ≡ Some t → t.sort ≡ s → HasSort vars Refused s t
  tree-sorted few x t s is same = tree-typed few x t is ∙ ap Some same
