-- The parts of the lines of a model that are parsed each on its own, and what may follow those that have no end of their
-- own.
use Rattle.std.specs.Prelude.{◌≡◌, ◌⊎◌, ℕ, List, [], ◌∷◌, ◌++◌, All, Option, Some, None}
use mathlib.Core.Logic.{inl, inr}
use Rattle.prism_syntax.specs.declared.labels.Labels.TheVariants.{Refused}
use Rattle.prism_syntax.specs.declared.precedence.Precedence.TheVariants as rule
use Rattle.prism_syntax.specs.declared.tokens.Kind.{Kind}
use Rattle.prism_syntax.specs.declared.tokens.Kind.TheVariants as k
use Rattle.prism_syntax.specs.declared.expressions.Expr.{Expr}
use Rattle.prism_syntax.specs.declared.commands.Command.{Command}
use Rattle.prism_syntax.specs.declared.commands.Branch.{Branch}
use Rattle.prism_syntax.specs.declared.models.SortWord.{SortWord}
use Rattle.prism_syntax.specs.declared.models.SortWord.TheVariants as sort
use Rattle.prism_syntax.specs.declared.models.Variable.{Variable}
use Rattle.prism_syntax.specs.declared.models.Item.{Item}
use Rattle.prism_syntax.specs.declared.models.Item.TheVariants as item
use Rattle.prism_syntax.specs.declared.models.ModelText.{ModelText}
use Rattle.prism_syntax.specs.declared.tokens.Token.{Token}
use Rattle.prism_syntax.specs.Tokens.{kinds}
use Rattle.prism_syntax.specs.Expressions.{Derives}
use Rattle.prism_syntax.specs.Models.{Each, Separated, IsOptional, IsPair, IsVariable, IsCommand, IsRewards, IsItem, AreBranches, model_of}
use Rattle.prism_reading.specs.Sequences.{IsTerminal, IsName, Both, Ended, OneOf, Made}

-- the tokens do not begin with this one
abbrev pub BeginsNot : Kind → List Kind → Type 0
BeginsNot kind tokens = (after : List Kind) → tokens ≡ kind ∷ after → ⊥

-- the tokens do not begin with a name
abbrev pub BeginsNoName : List Kind → Type 0
BeginsNoName tokens = (text : List ℕ) → BeginsNot (k.Name text) tokens

-- the tokens begin neither with `&`, which goes on an update, nor with `+`, which goes on branches
abbrev pub EndsBranches : List Kind → Type 0
EndsBranches tokens = BeginsNot k.Ampersand tokens × BeginsNot k.Plus tokens

-- nothing follows
abbrev pub IsEnd : List Kind → Type 0
IsEnd tokens = tokens ≡ []

-- an expression, and the token that ends it
abbrev pub IsExprUntil : Kind → List Kind → Expr → Type 0
IsExprUntil end = Ended (Derives Refused rule.Conditional) end

-- the sort that a token is
abbrev pub sort_of : Kind → Option SortWord
sort_of k.Int = Some sort.Int
sort_of k.Double = Some sort.Double
sort_of k.Bool = Some sort.Bool
sort_of _ = None

-- a token that is a sort
pub data IsSortWord : List Kind → SortWord → Type 0 where
  word : {t : Kind} {s : SortWord} → sort_of t ≡ Some s → IsSortWord (t ∷ []) s

-- a sort and a name; where no sort is written it is `int`
abbrev pub sorted : (SortWord × List ℕ) ⊎ List ℕ → SortWord × List ℕ
sorted (inl p) = p
sorted (inr name) = (sort.Int, name)

-- the sort and the name of a constant
abbrev pub IsSorted : List Kind → SortWord × List ℕ → Type 0
IsSorted = Made sorted (OneOf (Both IsSortWord IsName) IsName)

-- nothing, or an expression after this token, and then the semicolon that ends the line
abbrev pub IsOptionalEnded : Kind → List Kind → Option Expr → Type 0
IsOptionalEnded lead = Ended (IsOptional lead) k.Semicolon

-- two ends, or none for a truth value
abbrev pub range : (Unit {0} × (Expr × Expr)) ⊎ Unit {0} → Option (Expr × Expr)
range (inl p) = Some p.1
range (inr end) = None

-- the range of a variable, or `bool`
abbrev pub IsRange : List Kind → Option (Expr × Expr) → Type 0
IsRange = Made range (OneOf (Both (IsTerminal k.OpenBracket) (Both (IsExprUntil k.Dots) (IsExprUntil k.CloseBracket))) (IsTerminal k.Bool))

-- the branches of a command, and the semicolon that ends it
abbrev pub AreBranchesEnded : List Kind → List Branch → Type 0
AreBranchesEnded = Ended AreBranches k.Semicolon

-- the tokens begin with an assigned name
pub data BeginsTarget : List Kind → Type 0 where
  target : {name : List ℕ} {rest : List Kind} → BeginsTarget (k.Open ∷ (k.Name name ∷ (k.Prime ∷ rest)))

-- the tokens begin with an assigned name, or with a `true` that ends the branches
pub data BeginsUpdate : List Kind → Type 0 where
  nothing : {rest : List Kind} → BeginsUpdate (k.True ∷ (k.Semicolon ∷ rest))
  assigns : {tokens : List Kind} → BeginsTarget tokens → BeginsUpdate tokens

-- a name, or none, and the bracket after it
abbrev pub action : (List ℕ × Unit {0}) ⊎ Unit {0} → Option (List ℕ)
action (inl p) = Some p.0
action (inr end) = None

-- the action of a command, or none, up to the `]` after it
abbrev pub IsActionEnded : List Kind → Option (List ℕ) → Type 0
IsActionEnded = Made action (OneOf (Both IsName (IsTerminal k.CloseBracket)) (IsTerminal k.CloseBracket))

-- the name of a module and its pairs, without the tokens around them
abbrev pub renaming : List ℕ × (Unit {0} × (List (List ℕ × List ℕ) × (Unit {0} × Unit {0}))) → List ℕ × List (List ℕ × List ℕ)
renaming p = (p.0, p.1.1.0)

-- the rest of a module that is a copy of another, after `=`
abbrev pub IsRenaming : List Kind → List ℕ × List (List ℕ × List ℕ) → Type 0
IsRenaming = Made renaming (Both IsName (Both (IsTerminal k.OpenBracket) (Both (Separated k.Comma IsPair) (Both (IsTerminal k.CloseBracket) (IsTerminal k.EndModule)))))

-- variables and commands, without the token after them
abbrev pub body : List Variable × (List Command × Unit {0}) → List Variable × List Command
body p = (p.0, p.1.0)

-- the rest of a module that is written out, after its name
abbrev pub IsBody : List Kind → List Variable × List Command → Type 0
IsBody = Made body (Both (Each IsVariable) (Both (Each IsCommand) (IsTerminal k.EndModule)))

-- tokens up to the first `endrewards`
pub data EndsRewards : List Kind → Unit {0} → Type 0 where
  ends : (a : List Kind) → All (λ t. t ≡ k.EndRewards → ⊥) a → EndsRewards (a ++ (k.EndRewards ∷ [])) tt

-- a rewards block, which stands for nothing
abbrev pub IsPassed : List Kind → Unit {0} → Type 0
IsPassed tokens tree = IsRewards tokens

-- a model with one item more, behind those of its kind
abbrev pub with_last : ModelText → Item → ModelText
with_last m (item.Const c) = record m { consts = m.consts ++ (c ∷ []) }
with_last m (item.Global v) = record m { globals = m.globals ++ (v ∷ []) }
with_last m (item.Formula f) = record m { formulas = m.formulas ++ (f ∷ []) }
with_last m (item.Module d) = record m { modules = m.modules ++ (d ∷ []) }
with_last m (item.Label f) = record m { labels = m.labels ++ (f ∷ []) }
with_last m item.Rewards = m

-- the tokens are items, and this is the model of them
pub record AreItems (tokens : List Token) (model : ModelText) : Type 0 where
  pub items : List Item
  pub texts : Each IsItem (kinds tokens) items
  pub is : model ≡ model_of items
