-- What is true of every tree that formulas expand to.
use Rattle.std.proofs.Common.{◌≡◌, ℕ, zero, suc, ◌≤◌, List, Option, bytes_eq, arith, cond, refl, sym, ap, ◌∙◌, subst, MatchOption, leb}
use Rattle.std.specs.Prelude.{None, Some, All, ◌⊎◌}
use mathlib.Core.Logic.{inl, inr}
use mathlib.Core.Bool.{true}
use Rattle.std.specs.Option.{option_map}
use Rattle.std.proofs.lemmas.Bool.{cases_Bool, leb-true, le-leb}
use Rattle.prism_syntax.specs.declared.expressions.Expr.{Expr}
use Rattle.prism_syntax.specs.declared.expressions.Expr.TheVariants as e
use Rattle.prism_syntax.specs.declared.models.Named.{Named}
use Rattle.prism_syntax.specs.NodeCount.{node_count}
use Rattle.prism_syntax.specs.Replaced.{replaced}
use Rattle.prism_names.specs.First.{Name}
use Rattle.module_expand.specs.Expanded.{stands_for, AreExpanded}
use Rattle.module_expand.proofs.AgreeLemmas.{agree}
use Rattle.module_expand.proofs.ExpandedLemmas.{expanded, formula_of, stands-map}
use Rattle.module_expand.proofs.FirstLemmas.{some_or_none}
use Rattle.module_expand.proofs.FlatFormedLemmas.{found_holds}
use Rattle.module_expand.proofs.TreeLemmas.{nodes-paren}

-- each name that stands for something among these trees has a good tree, in parentheses, and no other name has a tree
abbrev pub HasGood : (Expr → Type 0) → List Named → (Name → Option Expr) → Type 0
HasGood Good trees by = (n : Name) → ((by n ≡ None) × (stands_for trees n ≡ None))
    ⊎ ((y : Expr) × (by n ≡ Some (e.Paren y)) × Good y)

module _ (Good : Expr → Type 0) (Fits : Named → Type 0) (formulas trees : List Named) (is : AreExpanded formulas trees) (truth : Good (e.Truth true))
    (closed : (by : Name → Option Expr) → HasGood Good trees by → (f : Named) → Fits f → Good (replaced by f.body))
    (fit : All Fits formulas) where
  -- a tree of more than k nodes gives way to a small one
  abbrev small : ℕ → Option Expr → Option Expr
  small k None = None
  small k (Some t) = Some (cond (leb (node_count t) k) t (e.Paren (e.Truth true)))

  small_agrees : (k : ℕ) (o : Option Expr) → MatchOption o (small k o ≡ None) (λ t. node_count t ≤ k → small k o ≡ Some t)
  small_agrees k None = refl
  small_agrees k (Some t) = λ le. ap (λ b. Some (cond b t (e.Paren (e.Truth true)))) (le-leb (node_count t) k le)

  stands : (n : Name) → stands_for trees n ≡ option_map (λ f. e.Paren (expanded trees f.body)) (formula_of formulas n)
  stands n = ap (λ z. stands_for z n) is ∙ stands-map (expanded trees) formulas n

  -- the trees of at most k nodes are good
  abbrev AreGood : ℕ → Type 0
  AreGood k = (f : Named) → Fits f → node_count (expanded trees f.body) ≤ k → Good (expanded trees f.body)

  -- so is what stands in the table of those
  table_good : (k : ℕ) → ((f : Named) → Fits f → suc (node_count (expanded trees f.body)) ≤ k → Good (expanded trees f.body))
      → HasGood Good trees (λ n. small k (stands_for trees n))
  table_good k good n = elim (some_or_none (formula_of formulas n)) [
    | inr none ↦ (let absent : stands_for trees n ≡ None = stands n ∙ ap (option_map (λ f. e.Paren (expanded trees f.body))) none in
        inl (ap (small k) absent, absent))
    | inl s ↦ (let tree : stands_for trees n ≡ Some (e.Paren (expanded trees s.0.body)) = stands n ∙ ap (option_map (λ f. e.Paren (expanded trees f.body))) s.1 in
        elim (cases_Bool (leb (node_count (e.Paren (expanded trees s.0.body))) k)) [
          | inl below ↦ inr (
            expanded trees s.0.body,
            ap (small k) tree ∙ ap (λ b. Some (cond b (e.Paren (expanded trees s.0.body)) (e.Paren (e.Truth true)))) below,
            good s.0 (found_holds Fits (λ f. bytes_eq f.name n) formulas s.0 fit s.1)
                (let le = leb-true (node_count (e.Paren (expanded trees s.0.body))) k below in omega (arith, le, nodes-paren (expanded trees s.0.body))),
          )
          | inr above ↦ inr (
            e.Truth true,
            ap (small k) tree ∙ ap (λ b. Some (cond b (e.Paren (expanded trees s.0.body)) (e.Paren (e.Truth true)))) above,
            truth,
          )
        ])
  ]

  are_good : (k : ℕ) → AreGood k
  are_good zero f fits le = subst Good (sym (agree (stands_for trees) (λ n. small zero (stands_for trees n)) zero
      (λ n. small_agrees zero (stands_for trees n)) f.body le))
      (closed (λ n. small zero (stands_for trees n)) (table_good zero (λ g ok none. absurd (omega (arith, none)))) f fits)
  are_good (suc k) f fits le = subst Good (sym (agree (stands_for trees) (λ n. small (suc k) (stands_for trees n)) (suc k)
      (λ n. small_agrees (suc k) (stands_for trees n)) f.body le))
      (closed (λ n. small (suc k) (stands_for trees n)) (table_good (suc k) (λ g ok below. are_good k g ok (omega (arith, below)))) f fits)

  -- what names stand for is good
  pub stands_good : HasGood Good trees (stands_for trees)
  stands_good n = elim (some_or_none (formula_of formulas n)) [
    | inr none ↦ (let absent : stands_for trees n ≡ None = stands n ∙ ap (option_map (λ f. e.Paren (expanded trees f.body))) none in
        inl (absent, absent))
    | inl s ↦ inr (
      expanded trees s.0.body,
      stands n ∙ ap (option_map (λ f. e.Paren (expanded trees f.body))) s.1,
      are_good (node_count (expanded trees s.0.body)) s.0 (found_holds Fits (λ f. bytes_eq f.name n) formulas s.0 fit s.1) (omega arith),
    )
  ]
