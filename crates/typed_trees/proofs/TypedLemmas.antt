-- The typed tree of an expression is well typed, where what its names and labels stand for is.
use Rattle.std.proofs.Common.{inl, inr, unwrap_or, ◌⊎◌, ◌≡◌, ℕ, List, [], ◌∷◌, Option, Bool, true, false, map, refl, sym, ap, ◌∙◌, subst}
use Rattle.std.specs.Prelude.{None, Some, if◌then◌else◌}
use Rattle.chain_model.specs.declared.values.Sort.{Sort}
use Rattle.chain_model.specs.declared.values.Sort.TheVariants as sort
use Rattle.chain_model.specs.declared.values.Value.{Value}
use Rattle.chain_model.specs.declared.values.Value.TheVariants as value
use Rattle.chain_model.specs.declared.expressions.Labels.{Labels}
use Rattle.chain_model.specs.declared.expressions.Func.{Func}
use Rattle.chain_model.specs.declared.expressions.Op.{Op}
use Rattle.chain_model.specs.declared.expressions.Typed.{Typed}
use Rattle.chain_model.specs.declared.expressions.Form.{Form, roll-Form, map-Form}
use Rattle.chain_model.specs.declared.expressions.Form.TheVariants as form
use Rattle.chain_model.specs.declared.expressions.Form.TheOpen.{Form-F}
use Rattle.chain_model.specs.declared.expressions.Form.TheOpen as node
use Rattle.chain_model.specs.declared.expressions.Form.TheFolds.{fold-Typed, fold-Form, fold-roll-Form, fold-roll-Typed, fold_out-Typed}
use Rattle.chain_model.specs.declared.chain.Var.{Var}
use Rattle.chain_model.specs.Sorts.{◌>>=◌, is_of_sort, call_sort, level_sort, negation_sort, opposite_sort, conditional_sort}
use Rattle.chain_model.specs.Typing.{sort_of, form_sort, as_declared, is_same_sort, variable_sort, label_sort, if_sort, IsTyped}
use Rattle.prism_syntax.specs.declared.expressions.Expr.{Expr, map-Expr}
use Rattle.prism_syntax.specs.declared.expressions.Expr.TheOpen.{Expr-F}
use Rattle.prism_syntax.specs.declared.expressions.Expr.TheOpen as top
use Rattle.prism_syntax.specs.declared.expressions.Expr.TheViews.{roll-Expr}
use Rattle.prism_syntax.specs.declared.expressions.Expr.TheFolds.{fold-Expr, fold-roll-Expr, ind-Expr}
use Rattle.prism_names.specs.First.{Name}
use Rattle.const_eval.specs.Tables.{op_of, func_of}
use Rattle.typed_trees.proofs.BindLemmas.{bind-Some}
use Rattle.typed_trees.specs.Leaves.{literal, variable}
use Rattle.typed_trees.specs.Trees.{all_trees, of_sort, whole_sort, sorts_of, call_tree, level_tree, negation_tree, opposite_tree, conditional_tree, if_tree, tree_step, tree_of, AreWellTyped}

-- a sort that is found is as it is declared
pub as_declared-self : (s : Sort) → as_declared s (Some s) ≡ Some s
as_declared-self sort.Int = refl
as_declared-self sort.Double = refl
as_declared-self sort.Bool = refl

-- a sort that is declared and found is that sort
as_one : (d f s : Sort) → (if is_same_sort d f then Some f else None) ≡ Some s → d ≡ s
as_one sort.Int sort.Int s is = ap (λ o. unwrap_or o s) is
as_one sort.Double sort.Double s is = ap (λ o. unwrap_or o s) is
as_one sort.Bool sort.Bool s is = ap (λ o. unwrap_or o s) is
as_one sort.Int sort.Double s is = absurd (let never : ⊥ = cc in never)
as_one sort.Int sort.Bool s is = absurd (let never : ⊥ = cc in never)
as_one sort.Double sort.Int s is = absurd (let never : ⊥ = cc in never)
as_one sort.Double sort.Bool s is = absurd (let never : ⊥ = cc in never)
as_one sort.Bool sort.Int s is = absurd (let never : ⊥ = cc in never)
as_one sort.Bool sort.Double s is = absurd (let never : ⊥ = cc in never)

-- a whole number of sort `int` is one
whole-is : (x : Value) (s : Sort) → whole_sort x ≡ Some s → (if is_of_sort s x then Some s else None) ≡ Some s
whole-is x s is = elim (bool_cases (is_of_sort sort.Int x)) [
  | inl holds ↦ (let same : Some sort.Int ≡ Some s = sym (ap (λ b. if b then Some sort.Int else None) holds) ∙ is in
      let one : sort.Int ≡ s = ap (λ o. some_or o s) same in
      subst (λ t. (if is_of_sort t x then Some t else None) ≡ Some t) one (ap (λ b. if b then Some sort.Int else None) holds))
  | inr fails ↦ (let none : None ≡ Some s = sym (ap (λ b. if b then Some sort.Int else None) fails) ∙ is in absurd (let never : ⊥ = cc in never))
]
  where
    some_or : Option Sort → Sort → Sort
    some_or o d = unwrap_or o d

    bool_cases : (b : Bool) → (b ≡ true) ⊎ (b ≡ false)
    bool_cases true = inl refl
    bool_cases false = inr refl

module _ (vars : List Var) (allowed : Labels) where
  -- a tree is well typed
  abbrev IsGood : Typed → Type 0
  IsGood tree = sort_of vars allowed tree ≡ Some tree.sort

  -- the sort of a node by those of its parts
  abbrev found_sort : Form-F Form Typed → Sort → Option Sort
  found_sort d s = form_sort vars allowed (map-Form Form Typed (Sort → Option Sort) (Option Sort)
      (fold-Form (Sort → Option Sort) (Option Sort) (form_sort vars allowed) (λ t. as_declared t.sort (t.form t.sort))) (sort_of vars allowed) d) s

  sort_of-roll : (d : Form-F Form Typed) (s : Sort) → sort_of vars allowed (record { sort = s; form = roll-Form d }) ≡ as_declared s (found_sort d s)
  sort_of-roll d s =
      fold-roll-Typed (Sort → Option Sort) (Option Sort) (form_sort vars allowed) (λ t. as_declared t.sort (t.form t.sort)) (record { sort = s; form = roll-Form d })
      ∙ ap (λ g. as_declared s (g s)) (fold-roll-Form (Sort → Option Sort) (Option Sort) (form_sort vars allowed) (λ t. as_declared t.sort (t.form t.sort)) d)

  -- a node of the sort that its parts give it is well typed
  good_node : (d : Form-F Form Typed) (f : Form) (found : Option Sort) (tree : Typed) → roll-Form d ≡ f
      → ((s : Sort) → found ≡ Some s → found_sort d s ≡ Some s) → of_sort f found ≡ Some tree → IsGood tree
  good_node d f found tree rolls fits is =
      let b = bind-Some found (λ s. Some (record { sort = s; form = f })) tree is in
      let whole : record { sort = b.0; form = roll-Form d } ≡ tree = ap (λ g. record { sort = b.0; form = g }) rolls ∙ ap (λ o. unwrap_or o tree) b.2 in
      subst IsGood whole (sort_of-roll d b.0 ∙ (ap (as_declared b.0) (fits b.0 b.1) ∙ as_declared-self b.0))

  -- a literal is well typed where its value is of its sort
  pub literal-IsTyped : (s : Sort) (v : Value) → is_of_sort s v ≡ true → IsTyped vars allowed (literal s v)
  literal-IsTyped s v fits =
      good_node (node.Lit v) (form.Lit v) (Some s) (literal s v) (form.rolls-Lit v)
      (λ t same. subst (λ u. (if is_of_sort u v then Some u else None) ≡ Some u) (ap (λ o. unwrap_or o t) same) (ap (λ b. if b then Some s else None) fits)) refl

  -- a variable is well typed where it is of its declared sort
  pub variable-IsTyped : (s : Sort) (n : ℕ) → variable_sort vars n ≡ Some s → IsTyped vars allowed (variable s n)
  variable-IsTyped s n known =
      good_node (node.Var n) (form.Var n) (Some s) (variable s n) (form.rolls-Var n) (λ t same. known ∙ same) refl

  -- the built-in labels are well typed where they may stand
  pub init-IsTyped : label_sort allowed ≡ Some sort.Bool → IsTyped vars allowed (record { sort = sort.Bool; form = form.IsInit })
  init-IsTyped stands =
      good_node node.IsInit form.IsInit (Some sort.Bool) (record { sort = sort.Bool; form = form.IsInit }) form.rolls-IsInit (λ t same. stands ∙ same) refl

  pub deadlock-IsTyped : label_sort allowed ≡ Some sort.Bool → IsTyped vars allowed (record { sort = sort.Bool; form = form.IsDeadlock })
  deadlock-IsTyped stands =
      good_node node.IsDeadlock form.IsDeadlock (Some sort.Bool) (record { sort = sort.Bool; form = form.IsDeadlock }) form.rolls-IsDeadlock (λ t same. stands ∙ same) refl

  -- a tree with a sort is declared to be of it
  pub sort_of-declared : (tree : Typed) (s : Sort) → sort_of vars allowed tree ≡ Some s → tree.sort ≡ s
  sort_of-declared tree s is =
      let found : Option Sort = fold-Form (Sort → Option Sort) (Option Sort) (form_sort vars allowed) (λ t. as_declared t.sort (t.form t.sort)) tree.form tree.sort in
      let b = bind-Some found (λ t. if is_same_sort tree.sort t then Some t else None) s
      (sym (fold_out-Typed (Sort → Option Sort) (Option Sort) (form_sort vars allowed) (λ t. as_declared t.sort (t.form t.sort)) tree) ∙ is) in
      as_one tree.sort b.0 s b.2

module _ (vars : List Var) (allowed : Labels) (names labels : Name → Option Typed) (known : AreWellTyped vars allowed names) (told : AreWellTyped vars allowed labels) where
  -- the typed tree of an expression, where it has one, is well typed
  abbrev Gives : Expr → Type 0
  Gives x = (tree : Typed) → tree_of names labels x ≡ Some tree → IsTyped vars allowed tree

  -- an expression whose typed tree is well typed
  abbrev Part : Type 0
  Part = (x : Expr) × Gives x

  -- the trees of parts are of their sorts
  good_parts : (parts : List Part) (trees : List Typed) → all_trees (map (tree_of names labels) (map (λ p. p.0) parts)) ≡ Some trees
      → map (sort_of vars allowed) trees ≡ sorts_of trees
  good_parts [] trees is = let none : [] ≡ trees = ap (λ o. unwrap_or o trees) is in
      subst (λ ts. map (sort_of vars allowed) ts ≡ sorts_of ts) none refl
  good_parts (p ∷ parts) trees is =
      let rest : Option (List Typed) = all_trees (map (tree_of names labels) (map (λ q. q.0) parts)) in
      let first = bind-Some (tree_of names labels p.0) (λ tree. rest >>= λ others. Some (tree ∷ others)) trees is in
      let more = bind-Some rest (λ others. Some (first.0 ∷ others)) trees first.2 in
      let whole : first.0 ∷ more.0 ≡ trees = ap (λ o. unwrap_or o trees) more.2 in
      let one : sort_of vars allowed first.0 ≡ Some first.0.sort = p.1 first.0 first.1 in
      let others : map (sort_of vars allowed) more.0 ≡ sorts_of more.0 = good_parts parts more.0 more.1 in
      subst (λ ts. map (sort_of vars allowed) ts ≡ sorts_of ts) whole (λ i. one i ∷ others i)

  -- the tree of a node is well typed where those of its parts are
  layer : (y : Expr-F Part) (tree : Typed)
      → tree_step names labels (map-Expr Expr (Option Typed) (tree_of names labels) (map-Expr Part Expr (λ p. p.0) y)) ≡ Some tree
      → IsTyped vars allowed tree
  layer (top.Whole v) tree is =
      good_node vars allowed (node.Lit (value.Num v)) (form.Lit (value.Num v)) (whole_sort (value.Num v)) tree (form.rolls-Lit (value.Num v)) (whole-is (value.Num v)) is
  layer (top.Real v) tree is =
      good_node vars allowed (node.Lit (value.Num v)) (form.Lit (value.Num v)) (Some sort.Double) tree (form.rolls-Lit (value.Num v))
      (λ s found. subst (λ t. found_sort vars allowed (node.Lit (value.Num v)) t ≡ Some t) (ap (λ o. unwrap_or o s) found) refl) is
  layer (top.Truth b) tree is =
      good_node vars allowed (node.Lit (value.Bool b)) (form.Lit (value.Bool b)) (Some sort.Bool) tree (form.rolls-Lit (value.Bool b))
      (λ s found. subst (λ t. found_sort vars allowed (node.Lit (value.Bool b)) t ≡ Some t) (ap (λ o. unwrap_or o s) found) refl) is
  layer (top.Name text) tree is = known text tree is
  layer (top.Quoted text) tree is = told text tree is
  layer (top.Paren p) tree is = p.1 tree is
  layer (top.Call f ps) tree is =
      let all = bind-Some (all_trees (map (tree_of names labels) (map (λ p. p.0) ps))) (call_tree (func_of f)) tree is in
      good_node vars allowed (node.Call (func_of f) all.0) (form.Call (func_of f) all.0) (call_sort (func_of f) (sorts_of all.0)) tree
      (form.rolls-Call (func_of f) all.0) (λ s found. ap (call_sort (func_of f)) (good_parts ps all.0 all.1) ∙ found) all.2
  layer (top.Not p) tree is =
      let one = bind-Some (tree_of names labels p.0) negation_tree tree is in
      good_node vars allowed (node.Not one.0) (form.Not one.0) (negation_sort one.0.sort) tree
      (form.rolls-Not one.0) (λ s found. ap (λ o. o >>= negation_sort) (p.1 one.0 one.1) ∙ found) one.2
  layer (top.Minus p) tree is =
      let one = bind-Some (tree_of names labels p.0) opposite_tree tree is in
      good_node vars allowed (node.Minus one.0) (form.Minus one.0) (opposite_sort one.0.sort) tree
      (form.rolls-Minus one.0) (λ s found. ap (λ o. o >>= opposite_sort) (p.1 one.0 one.1) ∙ found) one.2
  layer (top.Level ps os) tree is =
      let all = bind-Some (all_trees (map (tree_of names labels) (map (λ p. p.0) ps))) (λ trees. level_tree trees (map op_of os)) tree is in
      good_node vars allowed (node.Level all.0 (map op_of os)) (form.Level all.0 (map op_of os)) (level_sort (sorts_of all.0) (map op_of os)) tree
      (form.rolls-Level all.0 (map op_of os)) (λ s found. ap (λ parts. level_sort parts (map op_of os)) (good_parts ps all.0 all.1) ∙ found) all.2
  layer (top.If p q r) tree is =
      let c = bind-Some (tree_of names labels p.0) (λ condition. tree_of names labels q.0 >>= λ first. tree_of names labels r.0 >>= conditional_tree condition first) tree is in
      let x = bind-Some (tree_of names labels q.0) (λ first. tree_of names labels r.0 >>= conditional_tree c.0 first) tree c.2 in
      let y = bind-Some (tree_of names labels r.0) (conditional_tree c.0 x.0) tree x.2 in
      let one : sort_of vars allowed c.0 ≡ Some c.0.sort = p.1 c.0 c.1 in
      let two : sort_of vars allowed x.0 ≡ Some x.0.sort = q.1 x.0 x.1 in
      let three : sort_of vars allowed y.0 ≡ Some y.0.sort = r.1 y.0 y.1 in
      good_node vars allowed (node.If c.0 x.0 y.0) (form.If c.0 x.0 y.0) (conditional_sort c.0.sort x.0.sort y.0.sort) tree
      (form.rolls-If c.0 x.0 y.0) (λ s found. (λ i. if_sort (one i) (two i) (three i)) ∙ found) y.2

  pub tree_of-IsTyped : (x : Expr) (tree : Typed) → tree_of names labels x ≡ Some tree → IsTyped vars allowed tree
  tree_of-IsTyped = ind-Expr Gives (λ x y is. subst (λ z. Gives (roll-Expr z)) is (λ tree got.
      layer y tree (sym (fold-roll-Expr (Option Typed) (tree_step names labels) (map-Expr Part Expr (λ p. p.0) y)) ∙ got)))
