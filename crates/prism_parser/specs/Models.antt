-- When a tree of a model has a chain of two or more arrows: one of its expressions has.
use Rattle.std.specs.Prelude.{◌⊎◌, ℕ, List, ◌∷◌, Option, Some, None}
use Rattle.prism_syntax.specs.declared.expressions.Expr.{Expr}
use Rattle.prism_syntax.specs.declared.commands.Branch.{Branch}
use Rattle.prism_syntax.specs.declared.commands.Command.{Command}
use Rattle.prism_syntax.specs.declared.models.ConstText.{ConstText}
use Rattle.prism_syntax.specs.declared.models.Named.{Named}
use Rattle.prism_syntax.specs.declared.models.Variable.{Variable}
use Rattle.prism_syntax.specs.declared.models.Module.{Module}
use Rattle.prism_syntax.specs.declared.models.Module.TheVariants.{Written, Renamed}
use Rattle.prism_syntax.specs.declared.models.ModelText.{ModelText}
use Rattle.prism_limits.specs.Arrows.{HasLongChain}

-- one of some things has a property
pub data OneHas {X : Type 0} (Has : X → Type 0) : List X → Type 0 where
  in_first : {x : X} {xs : List X} → Has x → OneHas Has (x ∷ xs)
  in_later : {x : X} {xs : List X} → OneHas Has xs → OneHas Has (x ∷ xs)

-- an expression that may be left out has a long chain
abbrev pub HasLongOption : Option Expr → Type 0
HasLongOption (Some x) = HasLongChain x
HasLongOption None = ⊥

-- a range has one
abbrev pub HasLongRange : Option (Expr × Expr) → Type 0
HasLongRange (Some ends) = HasLongChain ends.0 ⊎ HasLongChain ends.1
HasLongRange None = ⊥

-- a constant has one
abbrev pub HasLongConst : ConstText → Type 0
HasLongConst c = HasLongOption c.value

-- a formula or a label has one
abbrev pub HasLongNamed : Named → Type 0
HasLongNamed f = HasLongChain f.body

-- a variable has one
abbrev pub HasLongVariable : Variable → Type 0
HasLongVariable v = HasLongRange v.range ⊎ HasLongOption v.init

-- an assignment has one
abbrev pub HasLongAssign : List ℕ × Expr → Type 0
HasLongAssign s = HasLongChain s.1

-- a branch has one
abbrev pub HasLongBranch : Branch → Type 0
HasLongBranch b = HasLongOption b.weight ⊎ OneHas HasLongAssign b.sets

-- a command has one
abbrev pub HasLongCommand : Command → Type 0
HasLongCommand c = HasLongChain c.guard ⊎ OneHas HasLongBranch c.branches

-- a module has one
abbrev pub HasLongModule : Module → Type 0
HasLongModule (Written title vars commands) = OneHas HasLongVariable vars ⊎ OneHas HasLongCommand commands
HasLongModule (Renamed title source pairs) = ⊥

-- a model has one: in a constant, a global variable, a formula, a module or a label
pub data HasLongModel (m : ModelText) : Type 0 where
  in_const : OneHas HasLongConst m.consts → HasLongModel m
  in_global : OneHas HasLongVariable m.globals → HasLongModel m
  in_formula : OneHas HasLongNamed m.formulas → HasLongModel m
  in_module : OneHas HasLongModule m.modules → HasLongModel m
  in_label : OneHas HasLongNamed m.labels → HasLongModel m
