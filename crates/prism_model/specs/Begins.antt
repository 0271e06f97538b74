-- Which tokens begin a model: one definition for each line of the grammar, in the order of the line's parts. The tokens
-- end inside one part, where the parts before it are whole and the tokens from there on begin that part.
use Rattle.std.specs.Prelude.{◌≡◌, ◌⊎◌, List, [], ◌∷◌, ◌++◌, All}
use Rattle.prism_syntax.specs.declared.labels.Labels.TheVariants.{Refused}
use Rattle.prism_syntax.specs.declared.precedence.Precedence.TheVariants as rule
use Rattle.prism_syntax.specs.declared.tokens.Kind.{Kind}
use Rattle.prism_syntax.specs.declared.tokens.Kind.TheVariants as k
use Rattle.prism_syntax.specs.Expressions.{Derives}
use Rattle.prism_syntax.specs.Models.{IsVariable, IsAssign, IsUpdate, IsWeighted, IsCommand, IsPair, IsItem, Each, Separated}
use Rattle.prism_reading.specs.Sequences.{IsTerminal, IsName, IsQuoted, OneOf}
use Rattle.prism_reading.specs.Begins.{BeginsTerminal, BeginsName, BeginsQuoted, BeginsBoth, BeginsAfter, BeginsOneOf, BeginsEach, BeginsSeparated}
use Rattle.prism_expression.specs.Begins.{Begins}
use Rattle.prism_model.specs.Parts.{IsExprUntil, IsSortWord, IsSorted, IsRange, IsActionEnded}

-- a name, and then what begins the rest
abbrev pub BeginsNamed : (List Kind → Type 0) → List Kind → Type 0
BeginsNamed BeginsRest = BeginsBoth IsName BeginsName BeginsRest

-- an expression
abbrev pub BeginsExpr : List Kind → Type 0
BeginsExpr = Begins Refused rule.Conditional

-- an expression up to the token that ends it
abbrev pub BeginsUntil : Kind → List Kind → Type 0
BeginsUntil end = BeginsBoth (Derives Refused rule.Conditional) BeginsExpr (BeginsTerminal end)

-- the semicolon that ends a line, or an expression before it, after this token
abbrev pub BeginsOptional : Kind → List Kind → Type 0
BeginsOptional lead = BeginsOneOf (BeginsAfter lead (BeginsUntil k.Semicolon)) (BeginsTerminal k.Semicolon)

-- a sort
pub data BeginsSort : List Kind → Type 0 where
  nothing : BeginsSort []
  int : BeginsSort (k.Int ∷ [])
  double : BeginsSort (k.Double ∷ [])
  bool : BeginsSort (k.Bool ∷ [])

-- the name of a constant, with or without a sort before it
abbrev pub BeginsSorted : List Kind → Type 0
BeginsSorted = BeginsOneOf (BeginsBoth IsSortWord BeginsSort BeginsName) BeginsName

-- the line of a constant
abbrev pub BeginsConst : List Kind → Type 0
BeginsConst = BeginsAfter k.Const (BeginsBoth IsSorted BeginsSorted (BeginsOptional k.Equal))

-- the line of a formula
abbrev pub BeginsFormula : List Kind → Type 0
BeginsFormula = BeginsAfter k.Formula (BeginsNamed (BeginsAfter k.Equal (BeginsUntil k.Semicolon)))

-- the line of a label
abbrev pub BeginsLabel : List Kind → Type 0
BeginsLabel = BeginsAfter k.Label (BeginsBoth IsQuoted BeginsQuoted (BeginsAfter k.Equal (BeginsUntil k.Semicolon)))

-- the range of a variable, or `bool`
abbrev pub BeginsRange : List Kind → Type 0
BeginsRange = BeginsOneOf
    (BeginsAfter k.OpenBracket (BeginsBoth (IsExprUntil k.Dots) (BeginsUntil k.Dots) (BeginsUntil k.CloseBracket)))
    (BeginsTerminal k.Bool)

-- the line of a variable
abbrev pub BeginsVariable : List Kind → Type 0
BeginsVariable = BeginsNamed (BeginsAfter k.Colon (BeginsBoth IsRange BeginsRange (BeginsOptional k.Init)))

-- the line of a global variable
abbrev pub BeginsGlobal : List Kind → Type 0
BeginsGlobal = BeginsAfter k.Global BeginsVariable

-- an assignment
abbrev pub BeginsAssign : List Kind → Type 0
BeginsAssign = BeginsAfter k.Open (BeginsNamed (BeginsAfter k.Prime (BeginsAfter k.Equal (BeginsUntil k.Close))))

-- `true`, or assignments joined by `&`
abbrev pub BeginsSets : List Kind → Type 0
BeginsSets = BeginsOneOf (BeginsTerminal k.True) (BeginsSeparated k.Ampersand IsAssign BeginsAssign)

-- a branch with its weight
abbrev pub BeginsWeighted : List Kind → Type 0
BeginsWeighted = BeginsBoth (IsExprUntil k.Colon) (BeginsUntil k.Colon) BeginsSets

-- the branches of a command, up to its semicolon: an update alone, or branches joined by `+`
abbrev pub BeginsBranches : List Kind → Type 0
BeginsBranches = BeginsOneOf
    (BeginsBoth IsUpdate BeginsSets (BeginsTerminal k.Semicolon))
    (BeginsBoth (Separated k.Plus IsWeighted) (BeginsSeparated k.Plus IsWeighted BeginsWeighted)
    (BeginsTerminal k.Semicolon))

-- the action of a command, or none, up to the `]` after it
abbrev pub BeginsAction : List Kind → Type 0
BeginsAction = BeginsOneOf (BeginsNamed (BeginsTerminal k.CloseBracket)) (BeginsTerminal k.CloseBracket)

-- the line of a command
abbrev pub BeginsCommand : List Kind → Type 0
BeginsCommand = BeginsAfter k.OpenBracket (BeginsBoth IsActionEnded BeginsAction
    (BeginsBoth (IsExprUntil k.Arrow) (BeginsUntil k.Arrow) BeginsBranches))

-- a name and what replaces it
abbrev pub BeginsPair : List Kind → Type 0
BeginsPair = BeginsNamed (BeginsAfter k.Equal BeginsName)

-- the rest of a module that is a copy of another
abbrev pub BeginsRenaming : List Kind → Type 0
BeginsRenaming = BeginsNamed (BeginsAfter k.OpenBracket
    (BeginsBoth (Separated k.Comma IsPair) (BeginsSeparated k.Comma IsPair BeginsPair)
    (BeginsAfter k.CloseBracket (BeginsTerminal k.EndModule))))

-- the rest of a module that is written out
abbrev pub BeginsBody : List Kind → Type 0
BeginsBody = BeginsBoth (Each IsVariable) (BeginsEach IsVariable BeginsVariable)
    (BeginsBoth (Each IsCommand) (BeginsEach IsCommand BeginsCommand) (BeginsTerminal k.EndModule))

-- a module
abbrev pub BeginsModule : List Kind → Type 0
BeginsModule = BeginsAfter k.Module (BeginsNamed (BeginsOneOf (BeginsAfter k.Equal BeginsRenaming) BeginsBody))

-- tokens of a rewards block, without its end or with it
pub data BeginsEnd : List Kind → Type 0 where
  inside : (a : List Kind) → All (λ t. t ≡ k.EndRewards → ⊥) a → BeginsEnd a
  whole : (a : List Kind) → All (λ t. t ≡ k.EndRewards → ⊥) a → BeginsEnd (a ++ (k.EndRewards ∷ []))

-- a rewards block
abbrev pub BeginsRewards : List Kind → Type 0
BeginsRewards = BeginsAfter k.Rewards BeginsEnd

-- an item of a model
abbrev pub BeginsItem : List Kind → Type 0
BeginsItem tokens = BeginsConst tokens ⊎ (BeginsGlobal tokens ⊎ (BeginsFormula tokens ⊎ (BeginsModule tokens
    ⊎ (BeginsLabel tokens ⊎ BeginsRewards tokens))))

-- the tokens begin a model
abbrev pub BeginsModel : List Kind → Type 0
BeginsModel = BeginsBoth (OneOf (IsTerminal k.Dtmc) (IsTerminal k.Probabilistic))
    (BeginsOneOf (BeginsTerminal k.Dtmc) (BeginsTerminal k.Probabilistic)) (BeginsEach IsItem BeginsItem)
