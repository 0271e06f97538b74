-- How tokens are spelled that are always spelled alike: the symbols and the reserved words.
use Rattle.std.specs.Prelude.{ℕ, ◌==◌, ◌||◌, not, List, ◌∷◌, codes, Bool, true, false, Option, Some, None}
use Rattle.std.specs.Char.{is_ascii_alphabetic}
use Rattle.prism_syntax.specs.declared.tokens.Kind.{Kind}
use Rattle.prism_syntax.specs.declared.tokens.Kind.TheVariants as k

-- the bytes of a symbol or of a reserved word; a name or a number has no spelling of its own
unfoldable pub spelling_of : Kind → Option (List ℕ)
spelling_of k.Semicolon = Some (codes ";")
spelling_of k.Colon = Some (codes ":")
spelling_of k.Comma = Some (codes ",")
spelling_of k.Dots = Some (codes "..")
spelling_of k.OpenBracket = Some (codes "[")
spelling_of k.CloseBracket = Some (codes "]")
spelling_of k.Open = Some (codes "(")
spelling_of k.Close = Some (codes ")")
spelling_of k.Prime = Some (codes "'")
spelling_of k.Equal = Some (codes "=")
spelling_of k.NotEqual = Some (codes "!=")
spelling_of k.Less = Some (codes "<")
spelling_of k.LessEqual = Some (codes "<=")
spelling_of k.Greater = Some (codes ">")
spelling_of k.GreaterEqual = Some (codes ">=")
spelling_of k.Plus = Some (codes "+")
spelling_of k.Dash = Some (codes "-")
spelling_of k.Star = Some (codes "*")
spelling_of k.Slash = Some (codes "/")
spelling_of k.Ampersand = Some (codes "&")
spelling_of k.Bar = Some (codes "|")
spelling_of k.Bang = Some (codes "!")
spelling_of k.Query = Some (codes "?")
spelling_of k.Arrow = Some (codes "->")
spelling_of k.Implies = Some (codes "=>")
spelling_of k.Equivalent = Some (codes "<=>")
spelling_of k.A = Some (codes "A")
spelling_of k.Bool = Some (codes "bool")
spelling_of k.Clock = Some (codes "clock")
spelling_of k.Const = Some (codes "const")
spelling_of k.Ctmc = Some (codes "ctmc")
spelling_of k.C = Some (codes "C")
spelling_of k.Double = Some (codes "double")
spelling_of k.Dtmc = Some (codes "dtmc")
spelling_of k.E = Some (codes "E")
spelling_of k.EndInit = Some (codes "endinit")
spelling_of k.EndInvariant = Some (codes "endinvariant")
spelling_of k.EndModule = Some (codes "endmodule")
spelling_of k.EndObservables = Some (codes "endobservables")
spelling_of k.EndRewards = Some (codes "endrewards")
spelling_of k.EndSystem = Some (codes "endsystem")
spelling_of k.False = Some (codes "false")
spelling_of k.Filter = Some (codes "filter")
spelling_of k.Formula = Some (codes "formula")
spelling_of k.Func = Some (codes "func")
spelling_of k.F = Some (codes "F")
spelling_of k.Global = Some (codes "global")
spelling_of k.G = Some (codes "G")
spelling_of k.I = Some (codes "I")
spelling_of k.Init = Some (codes "init")
spelling_of k.Int = Some (codes "int")
spelling_of k.Invariant = Some (codes "invariant")
spelling_of k.Label = Some (codes "label")
spelling_of k.Max = Some (codes "max")
spelling_of k.Mdp = Some (codes "mdp")
spelling_of k.Min = Some (codes "min")
spelling_of k.Module = Some (codes "module")
spelling_of k.Nondeterministic = Some (codes "nondeterministic")
spelling_of k.Observable = Some (codes "observable")
spelling_of k.Observables = Some (codes "observables")
spelling_of k.Of = Some (codes "of")
spelling_of k.P = Some (codes "P")
spelling_of k.Pmax = Some (codes "Pmax")
spelling_of k.Pmin = Some (codes "Pmin")
spelling_of k.Pomdp = Some (codes "pomdp")
spelling_of k.Popta = Some (codes "popta")
spelling_of k.Prob = Some (codes "prob")
spelling_of k.Probabilistic = Some (codes "probabilistic")
spelling_of k.Pta = Some (codes "pta")
spelling_of k.R = Some (codes "R")
spelling_of k.Rate = Some (codes "rate")
spelling_of k.Rewards = Some (codes "rewards")
spelling_of k.Rmax = Some (codes "Rmax")
spelling_of k.Rmin = Some (codes "Rmin")
spelling_of k.S = Some (codes "S")
spelling_of k.Stochastic = Some (codes "stochastic")
spelling_of k.System = Some (codes "system")
spelling_of k.True = Some (codes "true")
spelling_of k.U = Some (codes "U")
spelling_of k.W = Some (codes "W")
spelling_of k.X = Some (codes "X")
spelling_of (k.Name text) = None
spelling_of (k.Quoted text) = None
spelling_of (k.Whole value) = None
spelling_of (k.Real value) = None

-- a letter or `_`
abbrev pub begins_word : ℕ → Bool
begins_word c = is_ascii_alphabetic c || c == 95

-- a spelling that does not begin as a word
abbrev pub symbolic : Option (List ℕ) → Bool
symbolic (Some (c ∷ cs)) = not (begins_word c)
symbolic _ = false

-- a symbol
abbrev pub is_symbol : Kind → Bool
is_symbol kind = symbolic (spelling_of kind)

-- the reserved words of the language that this profile leaves out: they are refused by name
unfoldable pub is_refused : Kind → Bool
is_refused k.A = true
is_refused k.C = true
is_refused k.E = true
is_refused k.I = true
is_refused k.R = true
is_refused k.S = true
is_refused k.W = true
is_refused k.Clock = true
is_refused k.Ctmc = true
is_refused k.EndInit = true
is_refused k.EndInvariant = true
is_refused k.EndObservables = true
is_refused k.EndSystem = true
is_refused k.Filter = true
is_refused k.Func = true
is_refused k.Invariant = true
is_refused k.Mdp = true
is_refused k.Nondeterministic = true
is_refused k.Observable = true
is_refused k.Observables = true
is_refused k.Of = true
is_refused k.Pmax = true
is_refused k.Pmin = true
is_refused k.Pomdp = true
is_refused k.Popta = true
is_refused k.Prob = true
is_refused k.Pta = true
is_refused k.Rate = true
is_refused k.Rmax = true
is_refused k.Rmin = true
is_refused k.Stochastic = true
is_refused k.System = true
is_refused _ = false
