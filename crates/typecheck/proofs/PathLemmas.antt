-- The state formulas of a path are well typed, and the labels that they name.
use Rattle.std.proofs.Common.{◌≡◌, zero, suc, ◌<◌, List, ◌++◌, length, Option, true, All, bytes_eq, refl, sym, ap, ◌∙◌, subst, unwrap_or, arith, get_or}
use Rattle.std.specs.Prelude.{None, Some, if◌then◌else◌}
use Rattle.chain_model.specs.declared.values.Sort.{Sort}
use Rattle.chain_model.specs.declared.values.Sort.TheVariants as sort
use Rattle.chain_model.specs.declared.values.Value.TheVariants as value
use Rattle.chain_model.specs.declared.expressions.Labels.TheVariants.{Allowed, Refused}
use Rattle.chain_model.specs.declared.expressions.Typed.{Typed}
use Rattle.chain_model.specs.declared.chain.Var.{Var}
use Rattle.chain_model.specs.Sorts.{◌>>=◌}
use Rattle.chain_model.specs.Typing.{is_same_sort, HasSort, IsTyped}
use Rattle.prism_syntax.specs.declared.expressions.Expr.{Expr}
use Rattle.prism_syntax.specs.declared.properties.PathText.{PathText}
use Rattle.prism_syntax.specs.declared.properties.PathText.TheVariants as text
use Rattle.prism_names.specs.First.{Name}
use Rattle.typed_trees.specs.Trees.{tree_of, AreWellTyped}
use Rattle.typed_trees.proofs.BindLemmas.{bind-Some}
use Rattle.typed_trees.proofs.TypedLemmas.{tree_of-IsTyped, literal-IsTyped, init-IsTyped, deadlock-IsTyped, sort_of-declared}
use Rattle.typed_trees.proofs.AllowedLemmas.{sort_of-Allowed}
use Rattle.typed_trees.proofs.LeafLemmas.{lookup-All}
use Rattle.typecheck.specs.Formulas.{of_truth, one_formula, formulas_of, truth}
use Rattle.typecheck.specs.Paths.{built_in, label_leaf}

-- a tree that is taken as a state formula is of sort `bool`
only-truth : (tree t : Typed) → (if is_same_sort sort.Bool tree.sort then Some tree else None) ≡ Some t → (tree ≡ t) × (t.sort ≡ sort.Bool)
only-truth tree t is = go tree.sort refl
  where
    go : (s : Sort) → tree.sort ≡ s → (tree ≡ t) × (t.sort ≡ sort.Bool)
    go sort.Bool same =
        let one : tree ≡ t = ap (λ o. unwrap_or o t) (sym (ap (λ u. if is_same_sort sort.Bool u then Some tree else None) same) ∙ is) in
        (one, ap (λ w. w.sort) (sym one) ∙ same)
    go sort.Int same = absurd (let no : None ≡ Some t = sym (ap (λ u. if is_same_sort sort.Bool u then Some tree else None) same) ∙ is in let never : ⊥ = cc in never)
    go sort.Double same = absurd (let no : None ≡ Some t = sym (ap (λ u. if is_same_sort sort.Bool u then Some tree else None) same) ∙ is in let never : ⊥ = cc in never)

-- each label of a chain is well typed in a property, and so are the built-in ones
labels-typed : (vars : List Var) (labels : List (Name × Typed)) → All (λ label. HasSort vars Refused sort.Bool label.1) labels
    → All (λ label. IsTyped vars Allowed label.1) (built_in ++ labels)
labels-typed vars labels all zero d lt = init-IsTyped vars Allowed refl
labels-typed vars labels all (suc zero) d lt = deadlock-IsTyped vars Allowed refl
labels-typed vars labels all (suc (suc k)) d lt =
    let within : k < length labels = omega (arith, lt) in
    let label : Name × Typed = get_or labels k d in
    let is : HasSort vars Refused sort.Bool label.1 = all k d within in
    sort_of-Allowed vars label.1 sort.Bool is ∙ ap Some (sym (sort_of-declared vars Refused label.1 sort.Bool is))

pub labels-AreWellTyped : (vars : List Var) (labels : List (Name × Typed)) → All (λ label. HasSort vars Refused sort.Bool label.1) labels
    → AreWellTyped vars Allowed (label_leaf labels)
labels-AreWellTyped vars labels all name tree is =
    lookup-All (IsTyped vars Allowed) (bytes_eq name) (built_in ++ labels) (labels-typed vars labels all) tree is

module _ (vars : List Var) (names labels : Name → Option Typed) (known : AreWellTyped vars Allowed names) (told : AreWellTyped vars Allowed labels) where
  abbrev Good : Typed → Type 0
  Good tree = HasSort vars Allowed sort.Bool tree

  good : (x : Expr) (t : Typed) → of_truth (tree_of names labels x) ≡ Some t → Good t
  good x t is =
      let b = bind-Some (tree_of names labels x) (λ tree. if is_same_sort sort.Bool tree.sort then Some tree else None) t is in
      let one = only-truth b.0 t b.2 in
      let typed : IsTyped vars Allowed t = tree_of-IsTyped vars Allowed names labels known told x t (b.1 ∙ ap Some one.0) in
      typed ∙ ap Some one.1

  one-good : (x : Expr) (first second : Typed) → one_formula (tree_of names labels x) ≡ Some (first, second) → Good first × Good second
  one-good x first second is =
      let b = bind-Some (of_truth (tree_of names labels x)) (λ t. Some (truth, t)) (first, second) is in
      let pair : (truth, b.0) ≡ (first, second) = ap (λ o. unwrap_or o (first, second)) b.2 in
      (subst Good (ap (λ p. p.0) pair) (literal-IsTyped vars Allowed sort.Bool (value.Bool true) refl), subst Good (ap (λ p. p.1) pair) (good x b.0 b.1))

  -- the state formulas of a path are of sort `bool`
  pub formulas-good : (path : PathText) (first second : Typed) → formulas_of (tree_of names labels) path ≡ Some (first, second) → Good first × Good second
  formulas-good (text.Next x) first second is = one-good x first second is
  formulas-good (text.Finally time x) first second is = one-good x first second is
  formulas-good (text.Globally time x) first second is = one-good x first second is
  formulas-good (text.Until x time y) first second is =
      let b = bind-Some (of_truth (tree_of names labels x)) (λ t. of_truth (tree_of names labels y) >>= λ u. Some (t, u)) (first, second) is in
      let c = bind-Some (of_truth (tree_of names labels y)) (λ u. Some (b.0, u)) (first, second) b.2 in
      let pair : (b.0, c.0) ≡ (first, second) = ap (λ o. unwrap_or o (first, second)) c.2 in
      (subst Good (ap (λ p. p.0) pair) (good x b.0 b.1), subst Good (ap (λ p. p.1) pair) (good y c.0 c.1))
