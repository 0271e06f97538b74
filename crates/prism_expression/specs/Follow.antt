-- Which tokens may go on a text of a level.
use Rattle.std.specs.Prelude.{◌≡◌, ℕ, nat_le, List, [], ◌∷◌, Bool, true, false, Option, Some, None}
use Rattle.prism_syntax.specs.declared.tokens.Kind.{Kind}
use Rattle.prism_syntax.specs.declared.tokens.Kind.TheVariants as k
use Rattle.prism_syntax.specs.declared.precedence.Precedence.{Precedence}
use Rattle.prism_syntax.specs.declared.precedence.Precedence.TheVariants as rule

-- the number of a level: the greater, the more it binds
abbrev pub rank : Precedence → ℕ
rank rule.Conditional = 0
rank rule.Implication = 1
rank rule.Equivalence = 2
rank rule.Disjunction = 3
rank rule.Conjunction = 4
rank rule.Negation = 5
rank rule.Equality = 6
rank rule.Relation = 7
rank rule.Sum = 8
rank rule.Product = 9
rank rule.Unary = 10
rank rule.Primary = 11

-- the number of the level that a token goes on: the operators, `?`, and `(` after the name of a function
abbrev pub rank_of : Kind → Option ℕ
rank_of k.Query = Some 0
rank_of k.Implies = Some 1
rank_of k.Equivalent = Some 2
rank_of k.Bar = Some 3
rank_of k.Ampersand = Some 4
rank_of k.Equal = Some 6
rank_of k.NotEqual = Some 6
rank_of k.Less = Some 7
rank_of k.LessEqual = Some 7
rank_of k.Greater = Some 7
rank_of k.GreaterEqual = Some 7
rank_of k.Plus = Some 8
rank_of k.Dash = Some 8
rank_of k.Star = Some 9
rank_of k.Slash = Some 9
rank_of k.Open = Some 11
rank_of _ = None

-- a rank that is this one or a greater one
abbrev pub reaches : ℕ → Option ℕ → Bool
reaches least (Some rank) = nat_le least rank
reaches least None = false

-- a text of the level may go on with this token
abbrev pub goes_on : Precedence → Kind → Bool
goes_on l t = reaches (rank l) (rank_of t)

-- the tokens are empty, or the first of them does not go on a text of the level
abbrev pub Ends : Precedence → List Kind → Type 0
Ends l [] = Unit {0}
Ends l (t ∷ ts) = goes_on l t ≡ false

-- the tokens are not empty, and the first of them may go on a text of the level
abbrev pub GoesOn : Precedence → List Kind → Type 0
GoesOn l [] = ⊥
GoesOn l (t ∷ ts) = goes_on l t ≡ true
