-- Which tokens begin a property: one definition for each line of the grammar, in the order of the line's parts. The tokens
-- end inside one part, where the parts before it are whole and the tokens from there on begin that part.
use Rattle.std.specs.Prelude.{◌≡◌, List, [], ◌∷◌, Option, Some}
use Rattle.smc_num.specs.Fraction.{Fraction}
use Rattle.prism_syntax.specs.declared.labels.Labels.TheVariants.{Allowed}
use Rattle.prism_syntax.specs.declared.precedence.Precedence.TheVariants as rule
use Rattle.prism_syntax.specs.declared.tokens.Kind.{Kind}
use Rattle.prism_syntax.specs.declared.tokens.Kind.TheVariants as k
use Rattle.prism_syntax.specs.Expressions.{Derives}
use Rattle.prism_syntax.specs.Properties.{IsTime}
use Rattle.prism_reading.specs.Begins.{BeginsTerminal, BeginsName, BeginsBoth, BeginsAfter, BeginsOneOf}
use Rattle.prism_expression.specs.Begins.{Begins}
use Rattle.prop_parser.specs.Parts.{IsOne, cmp_of, strict_of, IsStateUntil, IsBoundUntil}

-- nothing, or one token that has a tree by itself
pub data BeginsOne {X : Type 0} (tree_of : Kind → Option X) : List Kind → Type 0 where
  nothing : BeginsOne tree_of []
  whole : {t : Kind} {x : X} → tree_of t ≡ Some x → BeginsOne tree_of (t ∷ [])

-- nothing, or a whole number
pub data BeginsWhole : List Kind → Type 0 where
  nothing : BeginsWhole []
  whole : {value : Fraction} → BeginsWhole (k.Whole value ∷ [])

-- a state formula up to the token that ends it
abbrev pub BeginsStateUntil : Kind → List Kind → Type 0
BeginsStateUntil stop = BeginsBoth (Derives Allowed rule.Conditional) (Begins Allowed rule.Conditional) (BeginsTerminal stop)

-- the last step of a time: a whole number, a name, or an expression in parentheses
abbrev pub BeginsLast : List Kind → Type 0
BeginsLast = BeginsOneOf BeginsWhole (BeginsOneOf BeginsName (BeginsAfter k.Open (BeginsStateUntil k.Close)))

-- a time
abbrev pub BeginsTime : List Kind → Type 0
BeginsTime = BeginsBoth (IsOne strict_of) (BeginsOne strict_of) BeginsLast

-- a time and the state formula after it, up to the end of the path formula
abbrev pub BeginsTimed : List Kind → Type 0
BeginsTimed = BeginsBoth IsTime BeginsTime (BeginsStateUntil k.CloseBracket)

-- a next
abbrev pub BeginsNext : List Kind → Type 0
BeginsNext = BeginsAfter k.X (BeginsStateUntil k.CloseBracket)

-- an until
abbrev pub BeginsUntil : List Kind → Type 0
BeginsUntil = BeginsBoth (IsStateUntil k.U) (BeginsStateUntil k.U) BeginsTimed

-- a path formula with the bracket that ends it: a next, a finally, a globally or an until
abbrev pub BeginsPath : List Kind → Type 0
BeginsPath = BeginsOneOf BeginsNext (BeginsOneOf (BeginsAfter k.F BeginsTimed) (BeginsOneOf (BeginsAfter k.G BeginsTimed) BeginsUntil))

-- a bound with the bracket after it
abbrev pub BeginsBound : List Kind → Type 0
BeginsBound = BeginsBoth (Derives Allowed rule.Sum) (Begins Allowed rule.Sum) (BeginsTerminal k.OpenBracket)

-- the tokens begin a property
abbrev pub BeginsProperty : List Kind → Type 0
BeginsProperty = BeginsAfter k.P (BeginsBoth (IsOne cmp_of) (BeginsOne cmp_of) (BeginsBoth IsBoundUntil BeginsBound BeginsPath))
