-- Well-formed tokens and trees: those that some text is spelled as.
use Rattle.std.specs.Prelude.{◌≡◌, ◌<◌, ℕ, List, [], ◌∷◌, length, All, Bool, true, Some, IfSome, IsSome}
use Rattle.smc_num.specs.Fraction.{Fraction}
use Rattle.prism_syntax.specs.declared.labels.Labels.{Labels}
use Rattle.prism_syntax.specs.declared.labels.Labels.TheVariants.{Allowed, Refused}
use Rattle.prism_syntax.specs.declared.tokens.Kind.{Kind}
use Rattle.prism_syntax.specs.declared.tokens.Kind.TheVariants as k
use Rattle.prism_syntax.specs.declared.expressions.Expr.{Expr}
use Rattle.prism_syntax.specs.declared.expressions.Expr.TheVariants as e
use Rattle.prism_syntax.specs.declared.expressions.Func.{Func}
use Rattle.prism_syntax.specs.declared.expressions.Op.{Op}
use Rattle.prism_syntax.specs.declared.precedence.Precedence.{Precedence}
use Rattle.prism_syntax.specs.declared.precedence.Precedence.TheVariants as rule
use Rattle.prism_syntax.specs.declared.commands.Branch.{Branch}
use Rattle.prism_syntax.specs.declared.commands.Command.{Command}
use Rattle.prism_syntax.specs.declared.models.ConstText.{ConstText}
use Rattle.prism_syntax.specs.declared.models.Named.{Named}
use Rattle.prism_syntax.specs.declared.models.Variable.{Variable}
use Rattle.prism_syntax.specs.declared.models.Module.{Module}
use Rattle.prism_syntax.specs.declared.models.Module.TheVariants.{Written, Renamed}
use Rattle.prism_syntax.specs.declared.models.ModelText.{ModelText}
use Rattle.prism_syntax.specs.declared.models.FlatText.{FlatText}
use Rattle.prism_syntax.specs.declared.properties.Time.{Time}
use Rattle.prism_syntax.specs.declared.properties.Time.TheVariants.{Upto}
use Rattle.prism_syntax.specs.declared.properties.PathText.{PathText}
use Rattle.prism_syntax.specs.declared.properties.PathText.TheVariants as path
use Rattle.prism_syntax.specs.declared.properties.Property.{Property}
use Rattle.prism_syntax.specs.Tokens.{IsToken}
use Rattle.prism_syntax.specs.Precedence.{operator, takes}

-- some bytes are a token of this kind
abbrev pub IsFormedKind : Kind → Type 0
IsFormedKind kind = (bytes : List ℕ) × IsToken bytes (Some kind)

-- a text is spelled as a name
abbrev pub IsFormedName : List ℕ → Type 0
IsFormedName text = IsFormedKind (k.Name text)

-- an operator of a level
abbrev pub IsOperatorOf : Precedence → Op → Type 0
IsOperatorOf p op = (token : Kind) × (operator p token ≡ Some op)

mutual
  -- an expression is well formed; labels says whether names of labels are allowed
  pub data IsFormed (labels : Labels) : Expr → Type 0 where
    whole : {value : Fraction} → IsFormedKind (k.Whole value) → IsFormed labels (e.Whole value)
    real : {value : Fraction} → IsFormedKind (k.Real value) → IsFormed labels (e.Real value)
    truth : {b : Bool} → IsFormed labels (e.Truth b)
    name : {text : List ℕ} → IsFormedName text → IsFormed labels (e.Name text)
    quoted : {text : List ℕ} → labels ≡ Allowed → IsFormedKind (k.Quoted text) → IsFormed labels (e.Quoted text)
    paren : {x : Expr} → IsFormed labels x → IsFormed labels (e.Paren x)
    call : {f : Func} {x : Expr} {ys : List Expr} → takes f (length ys) ≡ true → IsFormed labels x → AreFormed labels ys
        → IsFormed labels (e.Call f (x ∷ ys))
    «not» : {x : Expr} → IsFormed labels x → IsFormed labels (e.Not x)
    minus : {x : Expr} → IsFormed labels x → IsFormed labels (e.Minus x)
    level : (p : Precedence) {x y : Expr} {ys : List Expr} {os : List Op}
        → All (IsOperatorOf p) os → length os ≡ length (y ∷ ys) → (p ≡ rule.Implication → ys ≡ [])
        → IsFormed labels x → AreFormed labels (y ∷ ys) → IsFormed labels (e.Level (x ∷ (y ∷ ys)) os)
    conditional : {x y z : Expr} → IsFormed labels x → IsFormed labels y → IsFormed labels z → IsFormed labels (e.If x y z)

  -- each of these expressions is well formed
  pub data AreFormed (labels : Labels) : List Expr → Type 0 where
    none : AreFormed labels []
    more : {x : Expr} {xs : List Expr} → IsFormed labels x → AreFormed labels xs → AreFormed labels (x ∷ xs)

-- an expression of a model, which names no label
abbrev pub IsPlain : Expr → Type 0
IsPlain x = IsFormed Refused x

-- a constant is well formed
pub record IsFormedConst (c : ConstText) : Type 0 where
  pub name : IsFormedName c.name
  pub value : IfSome c.value IsPlain

-- a formula is well formed
pub record IsFormedFormula (f : Named) : Type 0 where
  pub name : IsFormedName f.name
  pub body : IsPlain f.body

-- a label is well formed
pub record IsFormedLabel (f : Named) : Type 0 where
  pub name : IsFormedKind (k.Quoted f.name)
  pub body : IsPlain f.body

-- a variable is well formed
pub record IsFormedVariable (v : Variable) : Type 0 where
  pub name : IsFormedName v.name
  pub range : IfSome v.range (λ r. IsPlain r.0 × IsPlain r.1)
  pub init : IfSome v.init IsPlain

-- a branch is well formed
pub record IsFormedBranch (b : Branch) : Type 0 where
  pub weight : IfSome b.weight IsPlain
  pub sets : All (λ s. IsFormedName s.0 × IsPlain s.1) b.sets

-- a command is well formed: it has a branch, and a weight is left out only where it has no other
pub record IsFormedCommand (c : Command) : Type 0 where
  pub action : IfSome c.action IsFormedName
  pub guard : IsPlain c.guard
  pub some : 0 < length c.branches
  pub branches : All IsFormedBranch c.branches
  pub weights : 1 < length c.branches → All (λ b. IsSome b.weight) c.branches

-- a module is well formed
abbrev pub IsFormedModule : Module → Type 0
IsFormedModule (Written title vars commands) = IsFormedName title × All IsFormedVariable vars × All IsFormedCommand commands
IsFormedModule (Renamed title source pairs) = IsFormedName title × IsFormedName source × All (λ p. IsFormedName p.0 × IsFormedName p.1) pairs

-- a model is well formed
pub record IsFormedModel (m : ModelText) : Type 0 where
  pub consts : All IsFormedConst m.consts
  pub globals : All IsFormedVariable m.globals
  pub formulas : All IsFormedFormula m.formulas
  pub modules : All IsFormedModule m.modules
  pub labels : All IsFormedLabel m.labels

-- the module is written out
abbrev pub IsWritten : Module → Type 0
IsWritten (Written title vars commands) = Unit {0}
IsWritten (Renamed title source pairs) = ⊥

-- a flat model is well formed: its modules are all written out
pub record IsFormedFlat (m : FlatText) : Type 0 where
  pub consts : All IsFormedConst m.consts
  pub globals : All IsFormedVariable m.globals
  pub formulas : All IsFormedFormula m.formulas
  pub modules : All IsFormedModule m.modules
  pub written : All IsWritten m.modules
  pub labels : All IsFormedLabel m.labels

-- a time is well formed
abbrev pub IsFormedTime : Time → Type 0
IsFormedTime (Upto strict last) = IsFormed Allowed last

-- a path formula is well formed
abbrev pub IsFormedPath : PathText → Type 0
IsFormedPath (path.Next x) = IsFormed Allowed x
IsFormedPath (path.Finally t x) = IsFormedTime t × IsFormed Allowed x
IsFormedPath (path.Globally t x) = IsFormedTime t × IsFormed Allowed x
IsFormedPath (path.Until x t y) = IsFormed Allowed x × IsFormedTime t × IsFormed Allowed y

-- a property is well formed
pub record IsFormedProperty (p : Property) : Type 0 where
  pub bound : IsFormed Allowed p.bound
  pub path : IsFormedPath p.path
