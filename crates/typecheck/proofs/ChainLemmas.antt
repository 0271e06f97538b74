-- A property over a chain: what is found by tables of its variables and labels is what its definition says.
use Rattle.std.proofs.Common.{◌≡◌, ◌≤◌, List, length, Option, Result, All, sym, ap, ◌∙◌, subst}
use Rattle.std.specs.Prelude.{None, Ok, Err, ◌⊎◌, IfOk, IfErr, IsErrAnd, MatchResult}
use mathlib.Core.Logic.{inl, inr}
use Rattle.std.specs.Option.{option_or}
use Rattle.std.specs.Result.{result_unwrap_or}
use Rattle.chain_model.specs.declared.values.Sort.TheVariants as sort
use Rattle.chain_model.specs.declared.expressions.Typed.{Typed}
use Rattle.chain_model.specs.declared.expressions.Labels.TheVariants.{Allowed, Refused}
use Rattle.chain_model.specs.declared.chain.Chain.{Chain}
use Rattle.chain_model.specs.declared.job.Path.{Path}
use Rattle.chain_model.specs.declared.job.Claim.{Claim}
use Rattle.chain_model.specs.Paths.{IsPath}
use Rattle.chain_model.specs.Typing.{HasSort}
use Rattle.chain_model.specs.Values.{Valued}
use Rattle.prism_syntax.specs.declared.expressions.Expr.{Expr}
use Rattle.prism_syntax.specs.declared.properties.Property.{Property}
use Rattle.prism_names.specs.First.{Name}
use Rattle.const_eval.specs.declared.consts.Constant.{Constant}
use Rattle.typed_trees.specs.Leaves.{constant_leaf, variable_leaf, leaf_of}
use Rattle.typed_trees.specs.Trees.{tree_of, no_label}
use Rattle.typed_trees.specs.Numbers.{constant_value}
use Rattle.typed_trees.proofs.LeafLemmas.{constants-AreWellTyped, variables-AreWellTyped, leaves-AreWellTyped}
use Rattle.typecheck.specs.declared.fault.TypeFault.{TypeFault}
use Rattle.typecheck.specs.Refusals.{IsOutOfMemory}
use Rattle.typecheck.specs.Paths.{sorts_of_variables, label_leaf, IsTypedAs, IsPathOf}
use Rattle.typecheck.specs.PathRefusals.{IsRefusedAs, IsRefusedProperty}
use Rattle.typecheck.proofs.PathLemmas.{labels-AreWellTyped}
use Rattle.typecheck.proofs.OverLemmas.{IfOk-map, IfErr-map, or-nothing, typed-same, refused-same, typed-IsPath}

-- what holds of a result's value holds of the value once its fault is another
pub of-mapped : {T E F : Type 0} (r : Result T E) (s : Result T F) (x : T) (P : T → Type 0) (G : E → F → Type 0)
    → MatchResult r (λ y. s ≡ Ok y) (λ e. IsErrAnd s (G e)) → s ≡ Ok x → IfOk r P → P x
of-mapped {T} {E} {F} (Ok y) s x P G cases is holds =
    let one : Result T F = Ok y in
    let two : Result T F = Ok x in
    let both : one ≡ two = sym cases ∙ is in
    subst P (ap (λ (q : Result T F). result_unwrap_or q x) both) holds
of-mapped {T} {E} {F} (Err e) s x P G cases is holds =
    let one : Result T F = Ok x in
    absurd (let no : IsErrAnd one (G e) = subst (λ (q : Result T F). IsErrAnd q (G e)) is cases in no)

module _ (property : Property) (consts : List (Name × Constant)) (chain : Chain) (variables labels none : Name → Option Typed)
    (vs : (n : Name) → variables n ≡ variable_leaf (sorts_of_variables chain.vars) n) (ls : (n : Name) → labels n ≡ label_leaf chain.labels n)
    (no : (n : Name) → none n ≡ None) (r : Result (Path × Claim) TypeFault) where
  abbrev values : Expr → Valued
  values = constant_value consts

  abbrev found : Name → Option Typed
  found n = option_or (constant_leaf consts n) (variables n)

  abbrev constants : Name → Option Typed
  constants n = option_or (constant_leaf consts n) (none n)

  abbrev names : Name → Option Typed
  names = leaf_of consts (sorts_of_variables chain.vars)

  found-are : found ≡ names
  found-are = λ i n. option_or (constant_leaf consts n) (vs n i)

  labels-are : labels ≡ label_leaf chain.labels
  labels-are = λ i n. ls n i

  constants-are : constants ≡ constant_leaf consts
  constants-are = λ i n. or-nothing (constant_leaf consts n) (none n) (no n) i

  none-are : none ≡ no_label
  none-are = λ i n. no n i

  typed-over : (made : Path × Claim) → IsTypedAs found labels values property made.0 made.1 → IsPathOf consts chain property made.0 made.1
  typed-over made typed = typed-same values property found names labels (label_leaf chain.labels) made.0 made.1 found-are labels-are typed

  pub over-path : IfOk r (λ made. IsTypedAs found labels values property made.0 made.1) → IfOk r (λ made. IsPathOf consts chain property made.0 made.1)
  over-path = IfOk-map r (λ made. IsTypedAs found labels values property made.0 made.1) (λ made. IsPathOf consts chain property made.0 made.1) typed-over

  pub over-formed : length chain.vars ≤ 256 → All (λ label. HasSort chain.vars Refused sort.Bool label.1) chain.labels
      → IfOk r (λ made. IsTypedAs found labels values property made.0 made.1) → IfOk r (λ made. IsPath chain.vars made.0)
  over-formed few all =
      IfOk-map r (λ made. IsTypedAs found labels values property made.0 made.1) (λ made. IsPath chain.vars made.0) (λ made typed.
      typed-IsPath values property chain.vars names (label_leaf chain.labels)
      (leaves-AreWellTyped chain.vars Allowed (constant_leaf consts) (variable_leaf (sorts_of_variables chain.vars))
      (constants-AreWellTyped chain.vars Allowed consts) (variables-AreWellTyped chain.vars Allowed few))
      (labels-AreWellTyped chain.vars chain.labels all) made.0 made.1 (typed-over made typed))

  abbrev RefusedBy : TypeFault → Type 0
  RefusedBy f = IsRefusedAs (tree_of constants none) (tree_of found labels) constants found labels values property f

  pub over-accepted : IfOk r (λ made. (f : TypeFault) → RefusedBy f → ⊥) → IfOk r (λ made. (f : TypeFault) → IsRefusedProperty consts chain property f → ⊥)
  over-accepted =
      IfOk-map r (λ made. (f : TypeFault) → RefusedBy f → ⊥) (λ made. (f : TypeFault) → IsRefusedProperty consts chain property f → ⊥) (λ made never f refused.
      never f (refused-same values property (constant_leaf consts) constants names found (label_leaf chain.labels) labels no_label none f
      (sym constants-are) (sym found-are) (sym labels-are) (sym none-are) refused))

  pub over-refused : IfErr r (λ f. IsOutOfMemory f ⊎ RefusedBy f) → IfErr r (λ f. IsOutOfMemory f ⊎ IsRefusedProperty consts chain property f)
  over-refused = IfErr-map r (λ f. IsOutOfMemory f ⊎ RefusedBy f) (λ f. IsOutOfMemory f ⊎ IsRefusedProperty consts chain property f) told
    where
      told : (f : TypeFault) → IsOutOfMemory f ⊎ RefusedBy f → IsOutOfMemory f ⊎ IsRefusedProperty consts chain property f
      told f (inl out) = inl out
      told f (inr refused) =
          inr (refused-same values property constants (constant_leaf consts) found names labels (label_leaf chain.labels) none no_label f
          constants-are found-are labels-are none-are refused)
