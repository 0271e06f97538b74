-- What names stand for is well typed.
use Rattle.std.proofs.Common.{◌≡◌, ℕ, zero, suc, ◌+◌, ◌-◌, ◌^◌, ◌<◌, ◌≤◌, min, List, [], ◌∷◌, length, get_or, Option, Bool, true, false, map, cond, bytes_eq, refl, sym, ap, ◌∙◌, subst, unwrap_or, arith, All, option_map, lit≤}
use Rattle.std.specs.Prelude.{None, Some, if◌then◌else◌}
use mathlib.Core.Logic.{inl, inr}
use Rattle.std.specs.Map.{lookup}
use Rattle.std.specs.List.{enumerate_from, slice_get}
use Rattle.std.specs.Option.{option_or}
use Rattle.std.proofs.lemmas.Bool.{cases_Bool}
use Rattle.chain_model.specs.declared.values.Sort.{Sort}
use Rattle.chain_model.specs.declared.expressions.Labels.{Labels}
use Rattle.chain_model.specs.declared.expressions.Typed.{Typed}
use Rattle.chain_model.specs.declared.chain.Var.{Var}
use Rattle.chain_model.specs.Sorts.{is_of_sort}
use Rattle.chain_model.specs.Typing.{IsTyped, variable_sort}
use Rattle.prism_names.specs.First.{Name}
use Rattle.const_eval.specs.declared.consts.Constant.{Constant}
use Rattle.typed_trees.specs.Leaves.{literal, variable, shown, numbered, constant_of, constant_tree, constant_leaf, variable_leaf}
use Rattle.typed_trees.specs.Trees.{AreWellTyped}
use Rattle.typed_trees.proofs.BindLemmas.{bind-Some}
use Rattle.typed_trees.proofs.TypedLemmas.{literal-IsTyped, variable-IsTyped}

-- what is found at a key is among the entries
pub lookup-All : {X : Type 0} (Q : X → Type 0) (test : Name → Bool) (xs : List (Name × X)) → All (λ e. Q e.1) xs → (x : X) → lookup test xs ≡ Some x → Q x
lookup-All Q test [] all x is = absurd (let never : ⊥ = cc in never)
lookup-All {X} Q test (e ∷ xs) all x is = elim (cases_Bool (test e.0)) [
  | inl holds ↦
      let here : Some e.1 ≡ Some x = sym (ap (λ b. cond b (Some e.1) (lookup test xs)) holds) ∙ is in
      subst Q (ap (λ o. unwrap_or o x) here) (all 0 e (let lt : 0 < length (e ∷ xs) = omega arith in lt))
  | inr fails ↦
      lookup-All Q test xs (λ k d lt. all (suc k) d (let more : suc k < length (e ∷ xs) = omega arith in more)) x
      (sym (ap (λ b. cond b (Some e.1) (lookup test xs)) fails) ∙ is)
]

module _ (vars : List Var) (allowed : Labels) where
  -- constants are
  constant-typed : (c : Constant) (tree : Typed) → constant_tree c ≡ Some tree → IsTyped vars allowed tree
  constant-typed c tree is = elim (cases_Bool (is_of_sort c.sort c.value)) [
    | inl holds ↦
        let made : Some (literal c.sort c.value) ≡ Some tree = sym (ap (λ b. if b then Some (literal c.sort c.value) else None) holds) ∙ is in
        subst (IsTyped vars allowed) (ap (λ o. unwrap_or o tree) made) (literal-IsTyped vars allowed c.sort c.value holds)
    | inr fails ↦
        absurd (let no : None ≡ Some tree = sym (ap (λ b. if b then Some (literal c.sort c.value) else None) fails) ∙ is in let never : ⊥ = cc in never)
  ]

  pub constants-AreWellTyped : (consts : List (Name × Constant)) → AreWellTyped vars allowed (constant_leaf consts)
  constants-AreWellTyped consts name tree is =
      let b = bind-Some (constant_of consts name) constant_tree tree is in
      constant-typed b.0 tree b.2

  -- variables from some number on are, where the chain has them there
  numbered_from-typed : (k : ℕ) (vs : List Var) → k + length vs ≤ 256 → ((i : ℕ) → slice_get vars (k + i) ≡ slice_get vs i) → (test : Name → Bool) (tree : Typed)
      → lookup test (map (λ v. (v.1.0, variable v.1.1 (shown v.0))) (enumerate_from {X = Name × Sort} k (map (λ v. (v.name, v.sort)) vs))) ≡ Some tree → IsTyped vars allowed tree
  numbered_from-typed k [] few there test tree is = absurd (let never : ⊥ = cc in never)
  numbered_from-typed k (v ∷ vs) few there test tree is = elim (cases_Bool (test v.name)) [
    | inl holds ↦
        let here : Some (variable v.sort (shown k)) ≡ Some tree = sym (ap (λ b. cond b (Some (variable v.sort (shown k)))
        (lookup test (map (λ w. (w.1.0, variable w.1.1 (shown w.0))) (enumerate_from {X = Name × Sort} (k + 1) (map (λ w. (w.name, w.sort)) vs))))) holds) ∙ is in
        let exact : shown k ≡ k = small k (let lt : k < 256 = omega arith in lt) in
        let at : slice_get vars k ≡ Some v = ap (slice_get vars) (let e : k ≡ k + 0 = omega arith in e) ∙ there 0 in
        subst (IsTyped vars allowed) (ap (λ o. unwrap_or o tree) here)
        (variable-IsTyped vars allowed v.sort (shown k) (ap (variable_sort vars) exact ∙ ap (option_map (λ w. w.sort)) at))
    | inr fails ↦
        numbered_from-typed (k + 1) vs (let le : k + 1 + length vs ≤ 256 = omega arith in le)
        (λ i. ap (slice_get vars) (let e : k + 1 + i ≡ k + suc i = omega arith in e) ∙ there (suc i)) test tree
        (sym (ap (λ b. cond b (Some (variable v.sort (shown k)))
        (lookup test (map (λ w. (w.1.0, variable w.1.1 (shown w.0))) (enumerate_from {X = Name × Sort} (k + 1) (map (λ w. (w.name, w.sort)) vs))))) fails) ∙ is)
  ]
    where
      small : (n : ℕ) → n < 256 → shown n ≡ n
      small n lt = grind arith

  -- the variables of a chain are
  pub variables-AreWellTyped : length vars ≤ 256 → AreWellTyped vars allowed (variable_leaf (map (λ v. (v.name, v.sort)) vars))
  variables-AreWellTyped few name tree is =
      numbered_from-typed 0 vars (let le : 0 + length vars ≤ 256 = omega arith in le) (λ i. ap (slice_get vars) (let e : 0 + i ≡ i = omega arith in e)) (bytes_eq name) tree is

  -- names are, where both the constants and the variables are
  pub leaves-AreWellTyped : (first second : Name → Option Typed) → AreWellTyped vars allowed first → AreWellTyped vars allowed second
      → AreWellTyped vars allowed (λ name. option_or (first name) (second name))
  leaves-AreWellTyped first second one two name tree is = go (first name) refl
    where
      go : (o : Option Typed) → first name ≡ o → IsTyped vars allowed tree
      go None none = two name tree (sym (ap (λ o. option_or o (second name)) none) ∙ is)
      go (Some t) some = one name tree (some ∙ (sym (ap (λ o. option_or o (second name)) some) ∙ is))
