-- Formulas have one expansion at most.
use Rattle.std.proofs.Common.{◌≡◌, ℕ, zero, suc, ◌≤◌, List, [], ◌∷◌, Option, map, find, bytes_eq, arith, refl, sym, ap, ◌∙◌, subst, MatchOption, cond, true, false}
use Rattle.std.specs.Prelude.{None, Some}
use Rattle.prism_syntax.specs.NodeCount.{node_count}
use Rattle.prism_syntax.specs.Replaced.{replaced}
use Rattle.module_expand.proofs.TreeLemmas.{nodes-paren}
use Rattle.module_expand.proofs.AgreeLemmas.{AgreesAt, agree}
use Rattle.std.specs.Option.{option_map}
use Rattle.prism_syntax.specs.declared.expressions.Expr.{Expr}
use Rattle.prism_syntax.specs.declared.models.Named.{Named}
use Rattle.prism_names.specs.First.{Name}
use Rattle.module_expand.specs.Expanded.{stands_for, with_body, AreExpanded, HaveOneExpansion}
use Rattle.module_expand.specs.Flat.{flat_of, HasOneFlat}
use Rattle.prism_syntax.specs.declared.expressions.Expr.TheVariants as e

-- an expression in which each name is replaced by what it stands for among these trees
abbrev pub expanded : List Named → Expr → Expr
expanded trees = replaced (stands_for trees)

-- the first formula of this name
abbrev pub formula_of : List Named → Name → Option Named
formula_of formulas name = find (λ f. bytes_eq f.name name) formulas

-- a name stands for the tree that was made of the text of its formula
pub stands-map : (g : Expr → Expr) (texts : List Named) (n : List ℕ)
    → stands_for (map (with_body g) texts) n ≡ option_map (λ f. e.Paren (g f.body)) (formula_of texts n)
stands-map g [] n = refl
stands-map g (f ∷ texts) n =
    elim (bytes_eq f.name n) as (λ b. option_map (λ h. e.Paren h.body) (cond b (Some (with_body g f))
    (find (λ h. bytes_eq h.name n) (map (with_body g) texts)))
    ≡ option_map (λ h. e.Paren (g h.body)) (cond b (Some f) (find (λ h. bytes_eq h.name n) texts)))
    [ true ↦ refl | false ↦ stands-map g texts n ]

-- what is made of a formula's text by two tables that agree on smaller trees
found : (g h : Expr → Expr) (k : ℕ) → ((x : Expr) → node_count (g x) ≤ k → g x ≡ h x) → (o : Option Named)
    → MatchOption (option_map (λ f. e.Paren (g f.body)) o) (option_map (λ f. e.Paren (h f.body)) o ≡ None)
    (λ t. node_count t ≤ suc k → option_map (λ f. e.Paren (h f.body)) o ≡ Some t)
found g h k same None = refl
found g h k same (Some f) = λ le. let less : node_count (g f.body) ≤ k = omega (arith, nodes-paren (g f.body), le) in
    λ i. Some (e.Paren (sym (same f.body less) i))

none : (g h : Expr → Expr) (o : Option Named)
    → MatchOption (option_map (λ f. e.Paren (g f.body)) o) (option_map (λ f. e.Paren (h f.body)) o ≡ None)
    (λ t. node_count t ≤ 0 → option_map (λ f. e.Paren (h f.body)) o ≡ Some t)
none g h None = refl
none g h (Some f) = λ le. absurd (omega (arith, nodes-paren (g f.body), le))

agrees_up_to : (texts trees others : List Named) → AreExpanded texts trees → AreExpanded texts others
    → (k : ℕ) (n : List ℕ) → AgreesAt (stands_for trees) (stands_for others) k n
agrees_up_to texts trees others is so zero n =
    subst (λ s. MatchOption s (stands_for others n ≡ None) (λ t. node_count t ≤ 0 → stands_for others n ≡ Some t))
    (sym (ap (λ z. stands_for z n) is ∙ stands-map (expanded trees) texts n))
    (subst (λ s. MatchOption (option_map (λ f. e.Paren (expanded trees f.body)) (formula_of texts n)) (s ≡ None)
    (λ t. node_count t ≤ 0 → s ≡ Some t))
    (sym (ap (λ z. stands_for z n) so ∙ stands-map (expanded others) texts n))
    (none (expanded trees) (expanded others) (formula_of texts n)))
agrees_up_to texts trees others is so (suc k) n =
    subst (λ s. MatchOption s (stands_for others n ≡ None) (λ t. node_count t ≤ suc k → stands_for others n ≡ Some t))
    (sym (ap (λ z. stands_for z n) is ∙ stands-map (expanded trees) texts n))
    (subst (λ s. MatchOption (option_map (λ f. e.Paren (expanded trees f.body)) (formula_of texts n)) (s ≡ None)
    (λ t. node_count t ≤ suc k → s ≡ Some t))
    (sym (ap (λ z. stands_for z n) so ∙ stands-map (expanded others) texts n))
    (found (expanded trees) (expanded others) k (agree (stands_for trees) (stands_for others) k
    (agrees_up_to texts trees others is so k)) (formula_of texts n)))

-- both expand each expression to the same
same_expanded : (texts trees others : List Named) → AreExpanded texts trees → AreExpanded texts others → (x : Expr)
    → expanded trees x ≡ expanded others x
same_expanded texts trees others is so x =
    let k = node_count (expanded trees x) in
    agree (stands_for trees) (stands_for others) k (agrees_up_to texts trees others is so k) x (omega arith)

pub one_expansion : HaveOneExpansion
one_expansion texts trees others is so =
    let same = same_expanded texts trees others is so in
    is ∙ ((λ i. map (λ f. record { name = f.name; body = same f.body i }) texts) ∙ sym so)

pub one_flat : HasOneFlat
one_flat m flat other is so = is.rest
    ∙ (ap (flat_of m) (one_expansion m.formulas flat.formulas other.formulas is.formulas so.formulas) ∙ sym so.rest)
