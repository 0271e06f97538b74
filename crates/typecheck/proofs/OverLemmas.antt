-- A property's path formula and its refusals go by what names stand for alone.
use Rattle.std.proofs.Common.{◌≡◌, ◌≤◌, List, Option, Result, refl, sym, subst, lit≤}
use Rattle.std.specs.Prelude.{None, Some, Ok, Err, IfOk, IfErr}
use Rattle.std.specs.Option.{option_or}
use Rattle.chain_model.specs.declared.expressions.Typed.{Typed}
use Rattle.chain_model.specs.declared.job.Path.{Path}
use Rattle.chain_model.specs.declared.job.PathKind.{PathKind}
use Rattle.chain_model.specs.declared.job.Claim.{Claim}
use Rattle.chain_model.specs.declared.chain.Var.{Var}
use Rattle.chain_model.specs.declared.expressions.Labels.TheVariants.{Allowed}
use Rattle.chain_model.specs.Limits.{most_horizon}
use Rattle.chain_model.specs.Paths.{IsPath, horizon_of}
use Rattle.chain_model.specs.Values.{Valued}
use Rattle.prism_syntax.specs.declared.expressions.Expr.{Expr}
use Rattle.prism_syntax.specs.declared.properties.PathText.{PathText}
use Rattle.prism_syntax.specs.declared.properties.PathText.TheVariants as text
use Rattle.prism_syntax.specs.declared.properties.Property.{Property}
use Rattle.prism_names.specs.First.{Name}
use Rattle.typed_trees.specs.Trees.{tree_of, AreWellTyped}
use Rattle.typecheck.specs.declared.fault.TypeFault.{TypeFault}
use Rattle.typecheck.specs.Paths.{IsTypedAs, HasKind}
use Rattle.typecheck.specs.PathRefusals.{IsRefusedAs}
use Rattle.typecheck.proofs.PathLemmas.{formulas-good}

-- what holds of an answer goes on to what follows of it
pub IfOk-map : {T E : Type 0} (r : Result T E) (P Q : T → Type 0) → ((x : T) → P x → Q x) → IfOk r P → IfOk r Q
IfOk-map (Ok x) P Q follows holds = follows x holds
IfOk-map (Err e) P Q follows holds = tt

pub IfErr-map : {T E : Type 0} (r : Result T E) (P Q : E → Type 0) → ((e : E) → P e → Q e) → IfErr r P → IfErr r Q
IfErr-map (Ok x) P Q follows holds = tt
IfErr-map (Err e) P Q follows holds = follows e holds

-- a name that nothing more is known of stands for what it stood for
pub or-nothing : {X : Type 0} (first second : Option X) → second ≡ None → option_or first second ≡ first
or-nothing (Some x) second none = refl
or-nothing None second none = none

module _ (values : Expr → Valued) (property : Property) where
  pub typed-same : (n m l k : Name → Option Typed) (path : Path) (claim : Claim) → n ≡ m → l ≡ k
      → IsTypedAs n l values property path claim → IsTypedAs m k values property path claim
  typed-same n m l k path claim names labels typed =
      subst (λ (z : Name → Option Typed). IsTypedAs z k values property path claim) names
      (subst (λ (z : Name → Option Typed). IsTypedAs n z values property path claim) labels typed)

  pub refused-same : (c d n m l k o p : Name → Option Typed) (f : TypeFault) → c ≡ d → n ≡ m → l ≡ k → o ≡ p
      → IsRefusedAs (tree_of c o) (tree_of n l) c n l values property f → IsRefusedAs (tree_of d p) (tree_of m k) d m k values property f
  refused-same c d n m l k o p f constants names labels none refused =
      subst (λ (z : Name → Option Typed). IsRefusedAs (tree_of z p) (tree_of m k) z m k values property f) constants
      (subst (λ (z : Name → Option Typed). IsRefusedAs (tree_of c p) (tree_of z k) c z k values property f) names
      (subst (λ (z : Name → Option Typed). IsRefusedAs (tree_of c p) (tree_of n z) c n z values property f) labels
      (subst (λ (z : Name → Option Typed). IsRefusedAs (tree_of c z) (tree_of n l) c n l values property f) none refused)))

  -- the horizon of a path is none past the greatest
  few : (path : PathText) (k : PathKind) → HasKind values path k → horizon_of k ≤ most_horizon
  few (text.Next x) k is = subst (λ (z : PathKind). horizon_of z ≤ most_horizon) (sym is) (lit≤ tt)
  few (text.Finally time x) k is = subst (λ (z : PathKind). horizon_of z ≤ most_horizon) (sym is.2) is.1.1
  few (text.Globally time x) k is = subst (λ (z : PathKind). horizon_of z ≤ most_horizon) (sym is.2) is.1.1
  few (text.Until x time y) k is = subst (λ (z : PathKind). horizon_of z ≤ most_horizon) (sym is.2) is.1.1

  -- the path formula of a property is one over the variables
  pub typed-IsPath : (vars : List Var) (names labels : Name → Option Typed) → AreWellTyped vars Allowed names → AreWellTyped vars Allowed labels
      → (path : Path) (claim : Claim) → IsTypedAs names labels values property path claim → IsPath vars path
  typed-IsPath vars names labels known told path claim typed =
      let both = formulas-good vars names labels known told property.path path.first path.second typed.formulas in
      record { horizon = few property.path path.kind typed.kind; first = both.0; second = both.1 }
