-- The tables by which the code finds symbols and reserved words: kinds with their spellings, by length.
use Rattle.std.specs.Prelude.{ℕ, ◌==◌, ◌||◌, List, [], ◌∷◌, codes, Bool, true, false, if◌then◌else◌}
use Rattle.prism_syntax.specs.declared.tokens.Kind.{Kind}
use Rattle.prism_syntax.specs.declared.tokens.Kind.TheVariants as k

-- the reserved words of one letter
unfoldable pub one_letter_words : List (List ℕ × Kind)
one_letter_words =
    (codes "A", k.A)
    ∷ (codes "C", k.C)
    ∷ (codes "E", k.E)
    ∷ (codes "F", k.F)
    ∷ (codes "G", k.G)
    ∷ (codes "I", k.I)
    ∷ (codes "P", k.P)
    ∷ (codes "R", k.R)
    ∷ (codes "S", k.S)
    ∷ (codes "U", k.U)
    ∷ (codes "W", k.W)
    ∷ (codes "X", k.X)
    ∷ []

-- the reserved words of four letters
unfoldable pub four_letter_words : List (List ℕ × Kind)
four_letter_words =
    (codes "bool", k.Bool)
    ∷ (codes "ctmc", k.Ctmc)
    ∷ (codes "dtmc", k.Dtmc)
    ∷ (codes "func", k.Func)
    ∷ (codes "init", k.Init)
    ∷ (codes "Pmax", k.Pmax)
    ∷ (codes "Pmin", k.Pmin)
    ∷ (codes "prob", k.Prob)
    ∷ (codes "rate", k.Rate)
    ∷ (codes "Rmax", k.Rmax)
    ∷ (codes "Rmin", k.Rmin)
    ∷ (codes "true", k.True)
    ∷ []

-- the reserved words of five letters
unfoldable pub five_letter_words : List (List ℕ × Kind)
five_letter_words =
    (codes "clock", k.Clock)
    ∷ (codes "const", k.Const)
    ∷ (codes "false", k.False)
    ∷ (codes "label", k.Label)
    ∷ (codes "pomdp", k.Pomdp)
    ∷ (codes "popta", k.Popta)
    ∷ []

-- the reserved words of six and seven letters
unfoldable pub middle_words : List (List ℕ × Kind)
middle_words =
    (codes "double", k.Double)
    ∷ (codes "endinit", k.EndInit)
    ∷ (codes "filter", k.Filter)
    ∷ (codes "formula", k.Formula)
    ∷ (codes "global", k.Global)
    ∷ (codes "module", k.Module)
    ∷ (codes "rewards", k.Rewards)
    ∷ (codes "system", k.System)
    ∷ []

-- the reserved words of two and three letters
unfoldable pub short_words : List (List ℕ × Kind)
short_words =
    (codes "int", k.Int)
    ∷ (codes "max", k.Max)
    ∷ (codes "mdp", k.Mdp)
    ∷ (codes "min", k.Min)
    ∷ (codes "of", k.Of)
    ∷ (codes "pta", k.Pta)
    ∷ []

-- the reserved words of eight letters and more
unfoldable pub long_words : List (List ℕ × Kind)
long_words =
    (codes "endinvariant", k.EndInvariant)
    ∷ (codes "endmodule", k.EndModule)
    ∷ (codes "endobservables", k.EndObservables)
    ∷ (codes "endrewards", k.EndRewards)
    ∷ (codes "endsystem", k.EndSystem)
    ∷ (codes "invariant", k.Invariant)
    ∷ (codes "nondeterministic", k.Nondeterministic)
    ∷ (codes "observable", k.Observable)
    ∷ (codes "observables", k.Observables)
    ∷ (codes "probabilistic", k.Probabilistic)
    ∷ (codes "stochastic", k.Stochastic)
    ∷ []

-- the reserved words of so many letters, and maybe others
abbrev pub words_of : ℕ → List (List ℕ × Kind)
words_of n =
    if n == 1 then one_letter_words
    else (if n == 4 then four_letter_words
    else (if n == 5 then five_letter_words
    else (if n == 6 || n == 7 then middle_words
    else (if n == 2 || n == 3 then short_words else long_words))))

-- the symbols of one byte
unfoldable pub one_byte_symbols : List (List ℕ × Kind)
one_byte_symbols =
    (codes ";", k.Semicolon)
    ∷ (codes ":", k.Colon)
    ∷ (codes ",", k.Comma)
    ∷ (codes "[", k.OpenBracket)
    ∷ (codes "]", k.CloseBracket)
    ∷ (codes "(", k.Open)
    ∷ (codes ")", k.Close)
    ∷ (codes "'", k.Prime)
    ∷ (codes "=", k.Equal)
    ∷ (codes "<", k.Less)
    ∷ (codes ">", k.Greater)
    ∷ (codes "+", k.Plus)
    ∷ (codes "-", k.Dash)
    ∷ (codes "*", k.Star)
    ∷ (codes "/", k.Slash)
    ∷ (codes "&", k.Ampersand)
    ∷ (codes "|", k.Bar)
    ∷ (codes "!", k.Bang)
    ∷ (codes "?", k.Query)
    ∷ []

-- the symbols of two bytes
unfoldable pub two_byte_symbols : List (List ℕ × Kind)
two_byte_symbols =
    (codes "..", k.Dots)
    ∷ (codes "!=", k.NotEqual)
    ∷ (codes "<=", k.LessEqual)
    ∷ (codes ">=", k.GreaterEqual)
    ∷ (codes "->", k.Arrow)
    ∷ (codes "=>", k.Implies)
    ∷ []

-- the symbol of three bytes
unfoldable pub three_byte_symbols : List (List ℕ × Kind)
three_byte_symbols =
    (codes "<=>", k.Equivalent)
    ∷ []

-- the symbols of so many bytes
abbrev pub symbols_of : ℕ → List (List ℕ × Kind)
symbols_of n = if n == 1 then one_byte_symbols else (if n == 2 then two_byte_symbols else three_byte_symbols)

-- the symbols, or the reserved words, of so many bytes
abbrev pub spelled_by : Bool → ℕ → List (List ℕ × Kind)
spelled_by true n = symbols_of n
spelled_by false n = words_of n
